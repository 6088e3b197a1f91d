-- What the program says where there is no profile.
use Rattle.std.specs.Prelude.{ℕ, ◌++◌, List, codes}
use Rattle.bag_faults.specs.FaultLine.{field}
use Rattle.bag_profile.specs.Key.{key_name}
use Rattle.bag_profile.specs.declared.fault.ProfileFault.TheVariants.{NotJson, NoIdentifier}
use Rattle.bag_profile.specs.declared.fault.ProfileFault.TheVariants.{WrongShape, Memory}
use Rattle.bag_cli.specs.declared.profile_refusal.ProfileRefusal.{ProfileRefusal}
use Rattle.bag_cli.specs.declared.profile_refusal.ProfileRefusal.TheVariants.{Unread, Refused}

-- the line about the value of a key that has a wrong shape
abbrev pub wrong_shape_line : List ℕ → List ℕ
wrong_shape_line key = codes "bagit: profile: wrong shape: " ++ (field key ++ codes "\n")

-- the line about a profile that is refused for this reason
abbrev pub refused_profile : List ℕ → List ℕ
refused_profile reason = codes "bagit: profile: " ++ (reason ++ codes "\n")

-- the line, with its end
abbrev pub refusal_line : ProfileRefusal → List ℕ
refusal_line Unread = codes "bagit: profile unread\n"
refusal_line (Refused NotJson) = refused_profile (codes "not JSON")
refusal_line (Refused NoIdentifier) = refused_profile (codes "no identifier")
refusal_line (Refused (WrongShape key)) = wrong_shape_line (key_name key)
refusal_line (Refused Memory) = codes "bagit: out of memory\n"
