-- Names that differ by normal form alone (Unicode Standard Annex 15).
use Rattle.std.specs.Prelude.{ℕ, ◌≡◌, ◌≢◌, List, chars, encode_utf8_all}
use Rattle.std.specs.declared.cmp.Ordering.TheVariants.{Less}
use Rattle.bag_text.specs.Bytes.{Path}
use Rattle.unicode_normalization.specs.Forms.{nfc}
use Rattle.bag_text.specs.Text.{text_cmp}

-- the NFC form of a text
abbrev pub nfc_of : List ℕ → List ℕ
nfc_of text = encode_utf8_all (nfc (chars text))

-- two texts are of one class: they have one NFC form
abbrev pub AreAlike : List ℕ → List ℕ → Type 0
AreAlike one other = nfc_of one ≡ nfc_of other

-- what is said of the names of a set
module _ (IsName : Path → Type 0) where
  -- the least name of the class of a text
  pub record IsLeastAlike (text : List ℕ) (least : Path) : Type 0 where
    pub name : IsName least
    pub alike : AreAlike text least
    pub lowest : (other : List ℕ) → IsName other → AreAlike text other → text_cmp other least ≢ Less

  -- a name that is the least of its class
  abbrev pub IsLeast : Path → Type 0
  IsLeast name = IsLeastAlike name name

  -- a name that isn't the least of its class, and the least
  abbrev pub Clashes : Path → Path → Type 0
  Clashes name least = IsName name × IsLeastAlike name least × (least ≢ name)
