-- The declaration that is written (RFC 8493, 2.1.1).
use Rattle.std.specs.Prelude.{[], ◌∷◌, ◌++◌, codes}
use Rattle.bag_text.specs.Bytes.{Content}
use Rattle.bag_text.specs.Lines.{line_feed}

-- version 1.0, and UTF-8
abbrev pub declaration_text : Content
declaration_text =
    codes "BagIt-Version: 1.0" ++ line_feed ∷ codes "Tag-File-Character-Encoding: UTF-8"
    ++ line_feed ∷ []
