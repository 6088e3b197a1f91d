use Rattle.std.proofs.Common.{arith}
use Rattle.std.proofs.lemmas.Bool.Decides.{nat_tests}
use Rattle.std.proofs.lemmas.Grind.{common_steps}
use Rattle.bag_tags.proofs.SpelledPaths.{line_ends-encode}
use Rattle.bag_tags.proofs.spelling.escape_of.Goals as goal

pub returns-in_default : goal.returns-in_default
returns-in_default c = line_ends-encode c.args.c (grind (arith, nat_tests))

pub returns-in-10 : goal.returns-in-10
returns-in-10 c = grind (arith, common_steps)
