-- The labels of bag-info.txt that have an option (RFC 8493, 2.2.2).
use Rattle.std.specs.Prelude.{List, [], ◌∷◌, codes}
use Rattle.std.specs.Str.{str_to_ascii_lowercase}
use Rattle.clap.specs.Words.{Text}
use Rattle.bag_arguments.specs.declared.label.Label.{Label}
use Rattle.bag_arguments.specs.declared.label.Label.TheVariants as label

-- in the order in which their elements are written
abbrev pub all_labels : List Label
all_labels =
    label.SourceOrganization ∷ label.OrganizationAddress ∷ label.ContactName ∷ label.ContactPhone
    ∷ label.ContactEmail ∷ label.ExternalDescription ∷ label.ExternalIdentifier ∷ label.BagSize
    ∷ label.BagGroupIdentifier ∷ label.BagCount ∷ label.InternalSenderIdentifier
    ∷ label.InternalSenderDescription ∷ label.BagItProfileIdentifier ∷ label.BaggingDate ∷ []

-- as it is written
abbrev pub label_name : Label → Text
label_name label.SourceOrganization = codes "Source-Organization"
label_name label.OrganizationAddress = codes "Organization-Address"
label_name label.ContactName = codes "Contact-Name"
label_name label.ContactPhone = codes "Contact-Phone"
label_name label.ContactEmail = codes "Contact-Email"
label_name label.ExternalDescription = codes "External-Description"
label_name label.ExternalIdentifier = codes "External-Identifier"
label_name label.BagSize = codes "Bag-Size"
label_name label.BagGroupIdentifier = codes "Bag-Group-Identifier"
label_name label.BagCount = codes "Bag-Count"
label_name label.InternalSenderIdentifier = codes "Internal-Sender-Identifier"
label_name label.InternalSenderDescription = codes "Internal-Sender-Description"
label_name label.BagItProfileIdentifier = codes "BagIt-Profile-Identifier"
label_name label.BaggingDate = codes "Bagging-Date"

-- its option, without the hyphens
abbrev pub label_option : Label → Text
label_option label = str_to_ascii_lowercase (label_name label)
