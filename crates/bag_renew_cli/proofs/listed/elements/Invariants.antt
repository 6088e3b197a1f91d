use Rattle.bag_renew_cli.proofs.Common.{◌≡◌, map, take}
use Rattle.bag_renew_cli.specs.Listed.{element}
use Rattle.bag_renew_cli.proofs.listed.elements.Given as goal

abbrev pub invariant-loop-text : goal.invariant-loop-text
invariant-loop-text l = l.items ≡ map (λ text. element text.now) (take l.text-index l.texts)
