-- The order of elements by their labels, whatever the case of these (RFC 8493, 2.2.2).
use Rattle.std.specs.Prelude.{ℕ, List}
use Rattle.std.specs.Borrow.{Bor}
use Rattle.std.specs.List.Sorted.{IsSortedByKey}
use Rattle.std.specs.Ordering.{on}
use Rattle.std.specs.Str.{str_to_ascii_lowercase}
use Rattle.std.specs.declared.cmp.Ordering.{Ordering}
use Rattle.bag_text.specs.Text.{text_cmp}
use Rattle.bag_read.specs.declared.info.Element.{Element}

abbrev pub label_cmp : List ℕ → List ℕ → Ordering
label_cmp = on str_to_ascii_lowercase text_cmp

-- the label of an element that is lent, in lower case
abbrev pub folded_label : Bor Element → List ℕ
folded_label e = str_to_ascii_lowercase e.now.label

abbrev pub IsByLabel : List (Bor Element) → Type 0
IsByLabel elements = IsSortedByKey folded_label text_cmp elements
