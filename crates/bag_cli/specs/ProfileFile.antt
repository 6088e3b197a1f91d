-- What the file of a profile is read as.
use Rattle.std.specs.Prelude.{ℕ, ◌≡◌, ◌≤◌, ◌⊎◌, List, [], ◌∷◌, ◌++◌, length, ⊤}
use Rattle.std.specs.Prelude.{Option, Some, Result, Ok, Err}
use Rattle.bag_program.specs.SystemFile.{MayBeUnread}
use Rattle.bag_program.specs.Visits.{Event, Read}
use Rattle.bag_cli.specs.ProfileRefusal.{unread_as}
use Rattle.bag_program.specs.declared.read_fault.ReadFault.{ReadFault}
use Rattle.bag_program.specs.declared.read_fault.ReadFault.TheVariants as none
use Rattle.bag_text.specs.declared.alg.Alg.TheVariants.{Sha256}
use Rattle.bag_tree.specs.Digest.{digest}
use Rattle.bag_profile.specs.Read.{profile_in}
use Rattle.bag_profile.specs.declared.fault.ProfileFault.TheVariants.{Memory}
use Rattle.bag_cli.specs.declared.profile_file.SummedProfile.{SummedProfile}
use Rattle.bag_cli.specs.declared.profile_refusal.ProfileRefusal.{ProfileRefusal}
use Rattle.bag_cli.specs.declared.profile_refusal.ProfileRefusal.TheVariants.{Unread, Refused}

-- a file of more bytes isn't read
abbrev pub most_bytes : ℕ
most_bytes = 16777216

-- what may be answered of a file's bytes: all of them, which are no more than that; or that it
-- can't be read, or memory ran out
abbrev pub IsAnswer : (Option (List ℕ) → Type 0) → Result (List ℕ) ReadFault → Type 0
IsAnswer file (Ok bytes) = file (Some bytes) × (length bytes ≤ most_bytes)
IsAnswer file (Err none.Unread) = MayBeUnread file most_bytes
IsAnswer file (Err none.Memory) = ⊤

-- What is read of that answer: the profile that the bytes are, with their SHA-256, or the cause for
-- which they are none, or memory ran out; and where there are no bytes, why.
abbrev pub IsReadAs : Result (List ℕ) ReadFault → Result SummedProfile ProfileRefusal → Type 0
IsReadAs (Ok bytes) (Ok read) =
    (profile_in bytes ≡ Ok read.profile) × (read.sum ≡ digest Sha256 bytes)
IsReadAs (Ok bytes) (Err Unread) = ⊥
IsReadAs (Ok bytes) (Err (Refused fault)) = (fault ≡ Memory) ⊎ (profile_in bytes ≡ Err fault)
IsReadAs (Err fault) read = read ≡ Err (unread_as fault)

-- the file at the path was read, by one call, and this is what is read of its answer
pub record ReadsProfile (file : Option (List ℕ) → Type 0) (path : List ℕ)
    (before after : List Event)
    (read : Result SummedProfile ProfileRefusal) : Type 0 where
  pub answer : Result (List ℕ) ReadFault
  pub visits : after ≡ before ++ Read path answer ∷ []
  pub is_answer : IsAnswer file answer
  pub is_read : IsReadAs answer read
