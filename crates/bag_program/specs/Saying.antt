-- What is said beside the output.
use Rattle.std.specs.Prelude.{ℕ, ◌≡◌, ◌⊎◌, ◌==◌, ◌++◌, true, List, codes, if◌then◌else◌}
use Rattle.std.specs.Io.KnownBytes.{Appends}
use Rattle.std.specs.List.{ends_with}
use Rattle.bag_tree.specs.Out.{IsCut, OutState}

-- all of the text was taken; or a proper front of it, and then a refusal
abbrev pub Says : OutState → OutState → List ℕ → Type 0
Says before after text =
    Appends before.taken after.taken text
    ⊎ (IsCut before.taken after.taken text × (after.has_refused ≡ true))

-- a text with a line end at its end: its own, or else one after it
abbrev pub with_line_end : List ℕ → List ℕ
with_line_end text = if ends_with ◌==◌ text (codes "\n") then text else text ++ codes "\n"
