-- What a refusal names.
use Rattle.std.specs.Prelude.{◌≡◌, ◌≢◌, ◌⊎◌, []}
use Rattle.bag_text.specs.Bytes.{Path}
use Rattle.bag_tree.specs.declared.tree_fault.Stop.{Stop}
use Rattle.bag_tree.specs.declared.tree_fault.TreeFault.{TreeFault}
use Rattle.bag_tree.specs.declared.tree_fault.TreeFault.TheVariants.{Memory}

-- there was no memory, and no file is named
abbrev pub IsOutOfMemory : Stop → Type 0
IsOutOfMemory stop = (stop.cause ≡ Memory) × (stop.path ≡ [])

-- The refusal of the file is reported so: with its path, or without one where it was when out of
-- memory.
abbrev pub IsRefusalOf : TreeFault → Path → Stop → Type 0
IsRefusalOf cause path stop = ((cause ≢ Memory) × (stop.cause ≡ cause) × (stop.path ≡ path))
    ⊎ ((cause ≡ Memory) × IsOutOfMemory stop)
