-- What a value is read as, or the first thing that is wrong with it.
use Rattle.std.specs.Prelude.{◌≡◌, ◌⊎◌, Option, Some, None, Result, Ok, Err}
use Rattle.serde_json.specs.Data.{Data}
use Rattle.serde_json.specs.Find.{get}
use Rattle.bag_profile.specs.declared.fault.ProfileFault.{ProfileFault}
use Rattle.bag_profile.specs.declared.fault.ProfileFault.TheVariants.{NoIdentifier, WrongShape}
use Rattle.bag_profile.specs.declared.fault.ProfileFault.TheVariants.{Memory}
use Rattle.bag_profile.specs.declared.key.Key.{Key}
use Rattle.bag_profile.specs.Key.{key_name}
use Rattle.bag_profile.specs.Label.{optional}

-- the result is the answer, but for out of memory
abbrev pub IsAnswerOrMemory : {A : Type 0} → Result A ProfileFault → Result A ProfileFault → Type 0
IsAnswerOrMemory (Ok x) answer = answer ≡ Ok x
IsAnswerOrMemory (Err fault) answer = (fault ≡ Memory) ⊎ (answer ≡ Err fault)

-- what a value is, or that its key has a wrong shape
abbrev pub shaped : {A : Type 0} → Key → Option A → Result A ProfileFault
shaped key None = Err (WrongShape key)
shaped key (Some x) = Ok x

-- the value at a key that may be absent
abbrev pub at : {A : Type 0} → Key → A → (Data → Option A) → Data → Result A ProfileFault
at key default shape d = shaped key (optional default shape (get (key_name key) d))

abbrev pub present : {A : Type 0} → Key → (Data → Option A) → Option Data → Result A ProfileFault
present key shape None = Err NoIdentifier
present key shape (Some d) = shaped key (shape d)

-- the value at a key without which there is no identifier
abbrev pub needed : {A : Type 0} → Key → (Data → Option A) → Data → Result A ProfileFault
needed key shape d = present key shape (get (key_name key) d)
