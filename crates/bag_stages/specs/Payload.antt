-- The payload of a bag, and its size (RFC 8493, 2.1.2 and 2.2.2).
use Rattle.std.specs.Prelude.{List, length, filter, sum_by}
use Rattle.bag_text.specs.Bytes.{Content, Path}
use Rattle.bag_text.specs.Path.{is_payload_path}
use Rattle.bag_read.specs.declared.oxum.Oxum.{Oxum}
use Rattle.bag_tree.specs.Bag.{Bag, files_of}

-- the files of the payload in path order, each with its bytes
abbrev pub payload : Bag → List (Path × Content)
payload bag = filter (λ e. is_payload_path e.0) (files_of bag)

-- the total bytes of files, and their number
abbrev pub oxum_of_files : List (Path × Content) → Oxum
oxum_of_files files = record { octets = sum_by (λ e. length e.1) files; streams = length files }

-- the total bytes of the payload, and the number of its files
abbrev pub oxum : Bag → Oxum
oxum bag = oxum_of_files (payload bag)
