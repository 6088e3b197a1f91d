-- What the program says where there is no profile, and its exit status.
use Rattle.std.specs.Prelude.{ℕ}
use Rattle.bag_program.specs.declared.read_fault.ReadFault.{ReadFault}
use Rattle.bag_program.specs.declared.read_fault.ReadFault.TheVariants as read
use Rattle.bag_profile.specs.declared.fault.ProfileFault.TheVariants.{NotJson, NoIdentifier}
use Rattle.bag_profile.specs.declared.fault.ProfileFault.TheVariants.{WrongShape, Memory}
use Rattle.bag_cli.specs.declared.profile_refusal.ProfileRefusal.{ProfileRefusal}
use Rattle.bag_cli.specs.declared.profile_refusal.ProfileRefusal.TheVariants.{Unread, Refused}

-- the refusal where the file isn't read
abbrev pub unread_as : ReadFault → ProfileRefusal
unread_as read.Unread = Unread
unread_as read.Memory = Refused Memory

-- bytes that aren't a profile are the fault of who gave them
abbrev pub refusal_status : ProfileRefusal → ℕ
refusal_status Unread = 3
refusal_status (Refused NotJson) = 2
refusal_status (Refused NoIdentifier) = 2
refusal_status (Refused (WrongShape key)) = 2
refusal_status (Refused Memory) = 3
