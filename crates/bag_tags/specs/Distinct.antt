-- Texts in the order of their bytes, each once.
use Rattle.std.specs.Prelude.{ℕ, ◌≡◌, ◌+◌, ◌<◌, List, length, map, slice_index_or}
use Rattle.std.specs.Borrow.{Bor}
use Rattle.std.specs.declared.cmp.Ordering.TheVariants.{Less}
use Rattle.bag_text.specs.Text.{text_cmp}

-- the texts that are lent
abbrev pub lent_texts : List (Bor (List ℕ)) → List (List ℕ)
lent_texts lent = map (λ text. text.now) lent

-- each text stands before the next
abbrev pub TextsAscend : List (Bor (List ℕ)) → Type 0
TextsAscend lent =
    (k : ℕ) (d : Bor (List ℕ)) → k + 1 < length lent
    → text_cmp (slice_index_or lent k d).now (slice_index_or lent (k + 1) d).now ≡ Less
