-- Codes in the table of codes are found by their numbers.
use Rattle.bag_text.proofs.Common.{Bool, Bor, List, None, Option, Some, [], ap, arith, find, map, refl, sym, unwrap_or}
use Rattle.bag_text.proofs.Common.{ℕ, ◌==◌, ◌∙◌, ◌∷◌, ◌≡◌, option_map}
use Rattle.bag_text.specs.Code.{number}
use Rattle.bag_text.specs.CodeWord.{word}
use Rattle.bag_text.specs.CodeList.{all_codes, words}
use Rattle.bag_text.specs.declared.code.Code.{Code}
use Rattle.bag_text.specs.declared.code.Code.TheVariants.{NoDeclaration}

-- the code of this number
abbrev pub code_numbered : ℕ → Option Code
code_numbered n = find (λ code. number code == n) all_codes

pub numbered_code : (c : Code) → code_numbered (number c) ≡ Some c
numbered_code NoDeclaration = refl
numbered_code _ = refl

-- what is found in a mapped list is mapped
found_mapped : {A B : Type 0} (f : A → B) (test : B → Bool) (xs : List A)
    → option_map f (find (λ x. test (f x)) xs) ≡ find test (map f xs)
found_mapped f test [] = refl
found_mapped f test (x ∷ xs) = grind (arith, find, found_mapped f test xs)

-- a code beside its word
abbrev worded : Code → Code × List ℕ
worded c = (c, word c)

abbrev row_numbered : {W : Type 0} → ℕ → List (Code × W) → Option (Code × W)
row_numbered n rows = find (λ row. number row.0 == n) rows

word_numbered : (c : Code) → row_numbered (number c) words ≡ Some (worded c)
word_numbered c =
    sym (found_mapped worded (λ row. number row.0 == number c) all_codes) ∙ ap (option_map worded) (numbered_code c)

-- a row as a code and a word
abbrev pub seen : Code × Bor (List ℕ) → Code × List ℕ
seen row = (row.0, row.1.now)

-- what is read at a code's number is its row
pub row_read : (rows : List (Code × Bor (List ℕ))) (c : Code) (n : ℕ) (read : Option (Code × Bor (List ℕ)))
    → map seen rows ≡ words → n ≡ number c → read ≡ row_numbered n rows
    → option_map seen read ≡ Some (worded c)
row_read rows c n read same at found =
    ap (option_map seen) (found ∙ ap (λ k. row_numbered k rows) at)
    ∙ found_mapped seen (λ row. number row.0 == number c) rows ∙ ap (row_numbered (number c)) same ∙ word_numbered c

-- it is there
pub row_there : (c : Code) (read : Option (Code × Bor (List ℕ))) → option_map seen read ≡ Some (c, word c) → read ≡ None
    → ⊥
row_there c read row none = cc

-- and has the code's word
pub row_word : (c : Code) (read : Option (Code × Bor (List ℕ))) (k : Code) (w : Bor (List ℕ))
    → option_map seen read ≡ Some (c, word c) → read ≡ Some (k, w) → w.now ≡ word c
row_word c read k w row found =
    ap (λ (o : Option (Code × List ℕ)). (unwrap_or o (c, [])).1) (sym (ap (option_map seen) found) ∙ row)
