-- A search of an ascending list for one text after another.
use Rattle.std.specs.Prelude.{ℕ, ◌≡◌, ◌↔◌, Bool, List, Contains, IsTrue}
use Rattle.std.specs.List.Sorted.{IsStrictlySortedBy}
use Rattle.std.specs.declared.cmp.Ordering.TheVariants.{Less}
use Rattle.bag_text.specs.Text.{text_cmp}

-- whether a text is in a list, and the rest of the list, which has its members that are greater
pub record IsSought (text : List ℕ) (all rest : List (List ℕ)) (is_found : Bool) : Type 0 where
  pub ascending : IsStrictlySortedBy text_cmp rest
  pub later : (other : List ℕ) → text_cmp text other ≡ Less
      → Contains all other ↔ Contains rest other
  pub found : IsTrue is_found ↔ Contains all text
