-- The metadata that is made of listed files.
use Rattle.std.specs.Prelude.{List, [], ◌∷◌, ◌++◌, length, sum_by}
use Rattle.bag_read.specs.declared.oxum.Oxum.{Oxum}
use Rattle.bag_read.specs.ManifestName.{tag_path}
use Rattle.bag_read.specs.declared.tag_name.TagName.TheVariants.{Info}
use Rattle.bag_tree.specs.declared.listing.FileEntry.{FileEntry}
use Rattle.bag_stages.specs.MetadataStage.{oxum_label}
use Rattle.bag_read.specs.Oxum.{oxum_text}
use Rattle.bag_tags.specs.Element.{NewElement, info_text}
use Rattle.bag_tags.specs.Summed.{File}

-- the bytes of listed files, and their number
abbrev pub size_of : List FileEntry → Oxum
size_of files = record { octets = sum_by (λ entry. entry.size) files; streams = length files }

-- bag-info.txt of a bag whose payload these files are
abbrev pub info_of : List FileEntry → List NewElement → File
info_of listed info =
    (tag_path Info, info_text (info ++ (oxum_label, oxum_text (size_of listed)) ∷ []))
