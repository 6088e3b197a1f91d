-- The parts of a closing line of a part that is done.
use Rattle.std.proofs.Common.{◌≡◌, ℕ, ◌+◌, ◌<◌, ◌^◌, ◌++◌, ◌∷◌, List, ap, codes, decimal, arith}
use Rattle.bag_reports.specs.DoneLine.{IsSaid, behind_bytes, behind_name}
use Rattle.bag_reports.specs.declared.done_line.DoneLine.{DoneLine}
use Rattle.bag_reports.proofs.Asked.{asked_cut}

abbrev pub from_bytes : DoneLine → List ℕ
from_bytes said =
    codes " bytes: " ++ (decimal said.subject.listed.bytes
    ++ 44 ∷ behind_bytes said.subject.clashes said.subject.profile said.count)

abbrev pub from_files : DoneLine → List ℕ
from_files said = codes "done, files: " ++ (decimal said.subject.listed.files ++ 44 ∷ from_bytes said)

abbrev pub from_of : DoneLine → List ℕ
from_of said = codes "of " ++ (decimal said.part.of ++ 32 ∷ from_files said)

abbrev pub from_part : DoneLine → List ℕ
from_part said = codes "part " ++ (decimal (said.part.number + 1) ++ 32 ∷ from_of said)

pub name_cut : (said : DoneLine) → behind_name said ≡ from_part said
name_cut said =
    ap (λ t. codes "part " ++ (decimal (said.part.number + 1) ++ 32 ∷ (codes "of " ++ (decimal said.part.of
    ++ 32 ∷ (codes "done, files: " ++ (decimal said.subject.listed.files
    ++ 44 ∷ (codes " bytes: " ++ (decimal said.subject.listed.bytes ++ t))))))))
    (asked_cut said.subject.clashes said.subject.profile said.count)

pub small_place : (said : DoneLine) → IsSaid said → said.part.number + 1 < 2 ^ 64
small_place said is = let below = is.part.below in let most = is.part.most in omega arith

pub small_of : (said : DoneLine) → IsSaid said → said.part.of < 2 ^ 64
small_of said is = let most = is.part.most in omega arith
