-- The tar files of a case.
use Rattle.std.specs.Prelude.{length}
use Rattle.bag_archive.specs.Archive.{ArchiveState}
use Rattle.bag_program.specs.SystemTar.{refused_times}
use Rattle.test_world.specs.declared.case_tar.CaseTar.{CaseTar}

-- nothing is claimed of what it holds; so often it refused, and it was asked for these parts
abbrev pub case_tar_state : CaseTar → ArchiveState
case_tar_state tar = refused_times (length tar.refusals.bytes) tar.asked.places
