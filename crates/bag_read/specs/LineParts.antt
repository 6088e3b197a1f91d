-- What lines of tag files are made of (RFC 8493, 2.1.1, 2.1.3 and 2.2.3).
use Rattle.std.specs.Prelude.{ℕ, ◌≡◌, ◌≢◌, ◌⊎◌, ◌++◌, false, not, List, [], ◌∷◌, IsTrue, Option}
use Rattle.std.specs.Prelude.{Some, None, if◌then◌else◌}
use Rattle.std.specs.Char.{is_ascii_digit}
use Rattle.std.specs.List.{list_all}
use Rattle.bag_text.specs.Text.{is_blank}
use Rattle.std.specs.Str.Parse.{digits_value}
use Rattle.bag_read.specs.Oxum.{is_number}

-- a text that isn't empty and doesn't begin with a blank
abbrev pub BeginsUnblank : List ℕ → Type 0
BeginsUnblank t = (c : ℕ) × (more : List ℕ) × (t ≡ c ∷ more) × (is_blank c ≡ false)

-- a part without a blank, one or more blanks, and what follows them
pub record IsCutAtBlanks (text part rest : List ℕ) : Type 0 where
  pub blanks : List ℕ
  pub text_is : text ≡ part ++ blanks ++ rest
  pub some_part : part ≢ []
  pub no_blank : IsTrue (list_all (λ c. not (is_blank c)) part)
  pub some_blank : blanks ≢ []
  pub only_blanks : IsTrue (list_all is_blank blanks)
  pub begins : BeginsUnblank rest

-- the longest front without a blank, the blanks after it, and what follows them
pub record IsFronted (text front rest : List ℕ) : Type 0 where
  pub blanks : List ℕ
  pub text_is : text ≡ front ++ blanks ++ rest
  pub no_blank : IsTrue (list_all (λ c. not (is_blank c)) front)
  pub only_blanks : IsTrue (list_all is_blank blanks)
  pub longest : blanks ≡ [] → rest ≡ []
  pub begins : (rest ≡ []) ⊎ BeginsUnblank rest

-- one or more ASCII digits
abbrev pub AreDigits : List ℕ → Type 0
AreDigits t = (t ≢ []) × IsTrue (list_all is_ascii_digit t)

-- the text after a mark, or the text itself where the mark doesn't stand in front of it
abbrev pub IsWithout : List ℕ → List ℕ → List ℕ → Type 0
IsWithout mark text after = (text ≡ mark ++ after)
    ⊎ ((after ≡ text) × ((more : List ℕ) → text ≢ mark ++ more))

-- the number that a text writes
abbrev pub number_of : List ℕ → Option ℕ
number_of t = if is_number t then Some (digits_value 10 t) else None
