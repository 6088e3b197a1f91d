-- A tar file of the system's.
use Rattle.std.specs.Prelude.{ℕ, false, List, [], length}
use Rattle.bag_archive.specs.Archive.{ArchiveState}
use Rattle.bag_archive.specs.declared.place.Place.{Place}
use Rattle.bag_program.specs.declared.system_tar.SystemTar.{SystemTar}

-- nothing is promised of what it holds; so often it refused, and it was asked for these parts
abbrev pub refused_times : ℕ → List Place → ArchiveState
refused_times n asked = record { bytes = []; honest = false; failures = n; asked = asked }

abbrev pub system_tar_state : {R F D : Type 0} → SystemTar R F D → ArchiveState
system_tar_state tar = refused_times (length tar.refusals.bytes) tar.asked.places
