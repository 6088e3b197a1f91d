-- The size of the payload among listed files.
use Rattle.std.specs.Prelude.{List, length, filter, sum_by}
use Rattle.bag_text.specs.Path.{is_payload_path}
use Rattle.bag_read.specs.declared.oxum.Oxum.{Oxum}
use Rattle.bag_tree.specs.declared.listing.FileEntry.{FileEntry}

-- the listed files of the payload
abbrev pub payload_entries : List FileEntry → List FileEntry
payload_entries files = filter (λ entry. is_payload_path entry.path) files

-- their bytes, and their number
abbrev pub listed_oxum : List FileEntry → Oxum
listed_oxum files =
    record {
      octets = sum_by (λ entry. entry.size) (payload_entries files);
      streams = length (payload_entries files);
    }
