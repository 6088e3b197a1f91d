use Rattle.bag_words.proofs.Common.{◌∙◌, first_value-rows, found_of}
use Rattle.bag_words.proofs.matched.value.Goals as goal

pub returns : goal.returns
returns c = c.get_str.ensures ∙ first_value-rows (found_of c.args.matches.now) c.args.id.now
