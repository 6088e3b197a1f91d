-- What is still packed of what manifests give for a file.
use Rattle.std.specs.Prelude.{List}
use Rattle.bag_stages.specs.Expected.{Expected}
use Rattle.bag_stages.specs.Packed.{unpacked}
use Rattle.bag_stages.specs.declared.packed.Unpacking.{Unpacking}

abbrev pub still_packed : Unpacking → List Expected
still_packed unpacking = unpacked unpacking.rest.now
