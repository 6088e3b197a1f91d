-- What a fault of the disk means in a call about each subject.
use Rattle.bag_disk.specs.Refusal.{at_known, of_making, of_name, refusal_at_path}
use Rattle.bag_disk.specs.declared.disk.DiskFault.{DiskFault}
use Rattle.bag_disk.specs.declared.refusal.Refusal.{Refusal}
use Rattle.bag_disk.specs.declared.refusal.Subject.{Subject}
use Rattle.bag_disk.specs.declared.refusal.Subject.TheVariants as subject

-- what a fault means in a call about this
abbrev pub meaning : Subject → DiskFault → Refusal
meaning subject.Path = refusal_at_path
meaning subject.Known = at_known
meaning subject.Name = of_name
meaning subject.Making = of_making
