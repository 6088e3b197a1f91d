-- Whether a bag may be fetched, which versions it may have, whether it is serialized (BagIt
-- Profiles Specification, Allow-Fetch.txt, Accept-BagIt-Version, Serialization).
use Rattle.std.specs.Prelude.{ℕ, Bool, true, List, [], ◌∷◌, Option, Result, Ok, bytes_eq, codes}
use Rattle.std.specs.Prelude.{find, option_and_then}
use Rattle.serde_json.specs.Data.{Data}
use Rattle.serde_json.specs.Find.{as_bool, as_str}
use Rattle.bag_profile.specs.declared.fault.ProfileFault.{ProfileFault}
use Rattle.bag_profile.specs.declared.key.Key.TheVariants as key
use Rattle.bag_profile.specs.declared.terms.Serialization.{Serialization}
use Rattle.bag_profile.specs.declared.terms.Serialization.TheVariants.{Forbidden, Required}
use Rattle.bag_profile.specs.declared.terms.Serialization.TheVariants.{Optional}
use Rattle.bag_profile.specs.declared.terms.Terms.{Terms}
use Rattle.bag_profile.specs.Answer.{at}
use Rattle.bag_text.specs.FirstFault.{◌>>=◌}
use Rattle.bag_profile.specs.NameLists.{texts_at}

-- whether a bag may have `fetch.txt`
unfoldable pub allow_fetch_of : Data → Result Bool ProfileFault
allow_fetch_of = at key.AllowFetch true as_bool

abbrev pub serialization_name : Serialization → List ℕ
serialization_name Forbidden = codes "forbidden"
serialization_name Required = codes "required"
serialization_name Optional = codes "optional"

abbrev pub serialization_named : List ℕ → Option Serialization
serialization_named text =
    find (λ serialization. bytes_eq (serialization_name serialization) text)
    (Forbidden ∷ Required ∷ Optional ∷ [])

-- whether a bag is to be serialized
unfoldable pub serialization_of : Data → Result Serialization ProfileFault
serialization_of =
    at key.Serialization Optional (λ d. option_and_then serialization_named (as_str d))

-- these three, in the order of their keys
abbrev pub terms_of : Data → Result Terms ProfileFault
terms_of d = do
  allow_fetch ← allow_fetch_of d
  versions ← texts_at key.AcceptBagItVersion d
  serialization ← serialization_of d
  Ok record { allow_fetch = allow_fetch; versions = versions; serialization = serialization }
