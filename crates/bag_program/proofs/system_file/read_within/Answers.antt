use Rattle.bag_program.proofs.Common.{◌≡◌, ◌≤◌, ◌+◌, ◌++◌, [], Option, List, ℕ, length, take, arith, IfSome, option_map}
use Rattle.std.proofs.lemmas.Grind.{common_steps}
use Rattle.bag_program.proofs.system_file.read_within.Goals as goal

all_left : (left : Option (List ℕ)) (start bytes : List ℕ) (limit most : ℕ)
    → IfSome (option_map (take limit) left) (λ taken. bytes ≡ start ++ taken) → start ≡ []
    → limit ≡ most + 1 → length bytes ≤ most → IfSome left (λ left. bytes ≡ left)
all_left left start bytes limit most is empty next within = grind (arith, common_steps)

pub returns-clause-whole : goal.returns-clause-whole
returns-clause-whole g c =
    let all =
    all_left _ _ _ _ c.args.most
    (rw (c.in_ok-answer_of.ensures.given, c.take.ensures.inner) at c.read_to_end.ensures.bytes)
    c.new-bytes.ensures.items
    (omega (arith, c.take.ensures.limit, c.from.ensures)) in
    grind (arith, all)
