-- All fault codes, and their words.
use Rattle.std.specs.Prelude.{ℕ, List, [], ◌∷◌, map}
use Rattle.bag_text.specs.declared.code.Code.{Code}
use Rattle.bag_text.specs.declared.code.Code.TheVariants as code
use Rattle.bag_text.specs.CodeWord.{word}

-- every code, in the order of the numbers
abbrev pub all_codes : List Code
all_codes =
    code.NoDeclaration ∷ code.DeclarationNotUtf8 ∷ code.DeclarationLineCount
    ∷ code.DeclarationLine ∷ code.VersionUnsupported ∷ code.EncodingUnsupported
    ∷ code.NoPayloadFolder ∷ code.NoPayloadManifest ∷ code.AlgorithmUnsupported ∷ code.NotUtf8
    ∷ code.InfoLine ∷ code.OxumMalformed ∷ code.OxumAgain ∷ code.OxumDiffers ∷ code.NoOxum
    ∷ code.FetchLine ∷ code.FetchEscape ∷ code.FetchUnsafePath ∷ code.FetchOutsidePayload
    ∷ code.FetchNotInManifest
    ∷ code.ManifestLine ∷ code.DigestLength ∷ code.ManifestEscape ∷ code.ManifestUnsafePath
    ∷ code.ManifestOutsidePayload ∷ code.TagmanifestNamesPayload
    ∷ code.TagmanifestNamesTagmanifest ∷ code.NamedAgain ∷ code.PayloadManifestNotListed
    ∷ code.PayloadFileMissing ∷ code.TagFileMissing ∷ code.PayloadFileNotListed ∷ code.NameClash
    ∷ code.PayloadSumDiffers ∷ code.TagSumDiffers
    ∷ code.ProfileIdentifier ∷ code.LabelRequired ∷ code.LabelRepeated ∷ code.ValueNotAllowed
    ∷ code.ManifestRequired ∷ code.ManifestNotAllowed ∷ code.TagmanifestRequired
    ∷ code.TagmanifestNotAllowed ∷ code.TagFileRequired ∷ code.TagFileNotAllowed
    ∷ code.FetchNotAllowed ∷ code.VersionNotAccepted ∷ code.SerializationRequired
    ∷ code.SerializationForbidden ∷ []

-- every code with its word
abbrev pub words : List (Code × List ℕ)
words = map (λ c. (c, word c)) all_codes
