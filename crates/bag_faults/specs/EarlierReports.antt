-- Reports from before SHA-224 and SHA-384 were checked: the order of their faults, and their lines.
use Rattle.std.specs.Prelude.{ℕ, ◌≡◌, ◌<◌, List, [], ◌∷◌, Option, Some, None, codes, decimal}
use Rattle.std.specs.List.{join_with_byte}
use Rattle.std.specs.Str.{byte}
use Rattle.std.specs.declared.cmp.Ordering.{Ordering}
use Rattle.std.specs.Ordering.{nat_cmp, on, then_cmp}
use Rattle.bag_text.specs.Bytes.{Line}
use Rattle.bag_text.specs.Text.{text_cmp}
use Rattle.bag_text.specs.Code.{number, stage}
use Rattle.bag_text.specs.CodeWord.{word}
use Rattle.bag_text.specs.declared.alg.Alg.{Alg}
use Rattle.bag_text.specs.declared.alg.Alg.TheVariants.{Md5, Sha1, Sha256, Sha512}
use Rattle.bag_faults.specs.declared.fault.Fault.{Fault}
use Rattle.bag_faults.specs.FaultLine.{field, line_field}
use Rattle.bag_faults.specs.LineOf.{IsLineOf, IsFault}
use Rattle.bag_faults.specs.FaultOrder.{fault_cmp}

-- the place of an algorithm in the order of those reports, from 1, and 0 for one that they can't
-- have
abbrev pub earlier_rank : Alg → ℕ
earlier_rank Md5 = 1
earlier_rank Sha1 = 2
earlier_rank Sha256 = 3
earlier_rank Sha512 = 4
earlier_rank _ = 0

-- its name in them
abbrev pub earlier_name : Alg → List ℕ
earlier_name Md5 = codes "md5"
earlier_name Sha1 = codes "sha1"
earlier_name Sha256 = codes "sha256"
earlier_name Sha512 = codes "sha512"
earlier_name _ = []

abbrev pub earlier_rank_or_zero : Option Alg → ℕ
earlier_rank_or_zero None = 0
earlier_rank_or_zero (Some alg) = earlier_rank alg

abbrev pub earlier_alg_field : Option Alg → List ℕ
earlier_alg_field None = codes "-"
earlier_alg_field (Some alg) = earlier_name alg

-- a fault that such a report can have
abbrev pub IsEarlier : Fault → Type 0
IsEarlier f = (alg : Alg) → f.alg ≡ Some alg → 0 < earlier_rank alg

-- the order of faults in it
abbrev pub earlier_cmp : Fault → Fault → Ordering
earlier_cmp =
    then_cmp (then_cmp (then_cmp (then_cmp (then_cmp
    (on (λ f. stage f.code) nat_cmp)
    (on (λ f. f.path) text_cmp))
    (on (λ f. earlier_rank_or_zero f.alg) nat_cmp))
    (on (λ f. f.line) nat_cmp))
    (on (λ f. number f.code) nat_cmp))
    (on (λ f. f.detail) text_cmp)

-- the line of a fault in it
abbrev pub earlier_line : Fault → Line
earlier_line f =
    join_with_byte (byte " ")
    (decimal (number f.code) ∷ word f.code ∷ field f.path ∷ earlier_alg_field f.alg
    ∷ line_field f.line ∷ field f.detail ∷ [])

-- the text is the line of this fault in it
pub record WasLineOf (line : Line) (f : Fault) : Type 0 where
  pub fault : IsFault f
  pub earlier : IsEarlier f
  pub text : earlier_line f ≡ line

-- the law: its faults keep their order among themselves
abbrev pub EarlierFaultsKeepTheirOrder : Type 0
EarlierFaultsKeepTheirOrder = (f g : Fault) → IsEarlier f → IsEarlier g
    → fault_cmp f g ≡ earlier_cmp f g

-- the law: each of its lines is still a line, of the same fault
abbrev pub EarlierLinesKeepTheirFaults : Type 0
EarlierLinesKeepTheirFaults = (line : Line) (f : Fault) → WasLineOf line f → IsLineOf line f
