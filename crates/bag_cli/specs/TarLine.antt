-- The line that says why a tar file makes no tree.
use Rattle.std.specs.Prelude.{ℕ, ◌++◌, List, codes}
use Rattle.bag_faults.specs.FaultLine.{field}
use Rattle.bag_archive.specs.declared.tar_fault.TarFault.{TarFault}
use Rattle.bag_archive.specs.declared.tar_fault.TarFault.TheVariants.{Device, Memory, CutOff, Damaged}
use Rattle.bag_archive.specs.declared.tar_fault.TarFault.TheVariants.{Special, Name, Twice, NoBase}
use Rattle.bag_archive.specs.declared.tar_fault.TarFault.TheVariants.{TooMany}

-- the word of a cause
abbrev pub tar_word : TarFault → List ℕ
tar_word Device = codes "device"
tar_word Memory = codes "memory"
tar_word CutOff = codes "cut-off"
tar_word Damaged = codes "damaged"
tar_word Special = codes "special"
tar_word Name = codes "name"
tar_word Twice = codes "twice"
tar_word NoBase = codes "no-base"
tar_word TooMany = codes "too-many"

-- the member, none where it has no name, and the cause
abbrev pub stopped_member : List ℕ → TarFault → List ℕ
stopped_member member cause =
    field member ++ (codes " " ++ (tar_word cause ++ codes ", faults: 0\n"))

-- the closing line of the tar file of this name, with its end
abbrev pub no_tree_line : List ℕ → List ℕ → TarFault → List ℕ
no_tree_line name member cause = field name ++ (codes " unread " ++ stopped_member member cause)
