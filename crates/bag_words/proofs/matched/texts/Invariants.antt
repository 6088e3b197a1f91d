use Rattle.bag_words.proofs.Common.{◌≡◌, map, take}
use Rattle.bag_words.proofs.matched.texts.Given as goal

abbrev pub invariant-loop-word : goal.invariant-loop-word
invariant-loop-word l = l.items ≡ map (λ word. word.now) (take l.word-index l.words)
