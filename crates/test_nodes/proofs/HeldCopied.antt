-- A clone of what is held holds the same.
use Rattle.std.proofs.Common.{◌≡◌, ℕ, [], ◌∷◌, refl, ap}
use Rattle.std.specs.Prelude.{Vec}
use Rattle.std.specs.FinMap.{from_entries}
use Rattle.std.specs.List.{AllZip, each_same}
use Rattle.std.specs.Vec.{vec_len}
use Rattle.std.specs.declared.alloc.Global.{Global}
use Rattle.test_nodes.specs.Held.{Held, entries_of, nodes_of, node_of}
use Rattle.test_nodes.specs.declared.held.Node.{Node}

-- a clone of a path, and of what stands there
abbrev pub IsEntryClone : Vec ℕ Global × Node → Vec ℕ Global × Node → Type 0
IsEntryClone e f =
    (AllZip (λ b c. c ≡ b) e.0.items f.0.items × (vec_len f.0 ≡ vec_len e.0)) × (node_of f.1 ≡ node_of e.1)

entries_cloned : (held clone : Held) → AllZip IsEntryClone held clone → entries_of clone ≡ entries_of held
entries_cloned [] [] zipped = refl
entries_cloned [] (f ∷ clone) zipped = absurd zipped
entries_cloned (e ∷ held) [] zipped = absurd zipped
entries_cloned (e ∷ held) (f ∷ clone) zipped = λ i.
    (each_same e.0.items f.0.items zipped.0.0.0 i, zipped.0.1 i) ∷ entries_cloned held clone zipped.1 i

pub held_cloned : (held clone : Held) → AllZip IsEntryClone held clone → nodes_of clone ≡ nodes_of held
held_cloned held clone zipped = ap from_entries (entries_cloned held clone zipped)
