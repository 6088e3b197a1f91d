-- The bytes of a text, however it is held.
use Rattle.std.specs.Prelude.{ℕ, List, string_bytes}
use Rattle.bag_text.specs.declared.text.Held.{Held}
use Rattle.bag_text.specs.declared.text.Held.TheVariants.{Own, Shared}

abbrev pub held_bytes : Held → List ℕ
held_bytes (Own string) = string_bytes string
held_bytes (Shared part) = part
