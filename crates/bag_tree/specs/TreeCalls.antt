-- What a call of a tree makes of what the tree means, and what it answers: of each call the clauses
-- of `Tree`.
use Rattle.std.specs.Prelude.{◌≡◌, ℕ, ◌≤◌, ◌+◌, None, Some, IsTrue, List, [], ◌∷◌, ◌++◌, take}
use Rattle.std.specs.Prelude.{Result, OnOk, OnErr, IfOk, IfErr, MatchResult}
use Rattle.bag_text.specs.Path.{is_path}
use Rattle.bag_tree.specs.Bag.{file}
use Rattle.bag_tree.specs.Listing.{IsOrdered, IsListingOf}
use Rattle.bag_tree.specs.Tree.{TreeState, Keeps, HasOpen, MayRefuseListing, MayRefuseOpening}
use Rattle.bag_tree.specs.Tree.{MayRefuseRead}
use Rattle.bag_tree.specs.FileReads.{IsOpen, ReadsNext, answer_of_read, gave_more}
use Rattle.bag_tree.specs.declared.answer.Answer.TheVariants.{Given, Refused, Unlisted}
use Rattle.bag_tree.specs.declared.tree_fault.TreeFault.{TreeFault}
use Rattle.bag_tree.specs.declared.listing.Listing.{Listing}

-- what `list` does
pub record ListCall (old new : TreeState) (answer : Result Listing TreeFault) : Type 0 where
  pub keeps : Keeps old new
  pub no_failure : OnOk answer (new.failures ≡ old.failures)
  pub openings : new.openings ≡ old.openings
  pub rest : new.rest ≡ old.rest
  pub ordered : IfOk answer (λ listing. IsOrdered listing.files)
  pub plain : OnOk answer (IsTrue old.honest → IsTrue old.plain)
  pub last : MatchResult answer (λ _. new.last ≡ Given) (λ fault. new.last ≡ Unlisted fault)
  pub listed : MatchResult answer (λ listing. new.listed ≡ Some listing) (λ _.
      new.listed ≡ old.listed)
  pub gave : new.gave ≡ old.gave
  pub honest : IfOk answer (λ listing. IsTrue old.honest → IsListingOf old.bag listing)
  pub refused : IfErr answer (MayRefuseListing old new)

-- what `open_file` does
pub record OpenCall (old new : TreeState) (path : List ℕ)
    (answer : Result (Unit {0}) TreeFault) : Type 0 where
  pub keeps : Keeps old new
  pub no_failure : OnOk answer (new.failures ≡ old.failures)
  pub opened : OnOk answer (new.openings ≡ old.openings ++ path ∷ [])
  pub only_paths : OnOk answer (IsTrue (is_path path))
  pub file_open : OnOk answer (HasOpen new)
  pub given : OnOk answer (new.given ≡ 0)
  pub last : MatchResult answer (λ _. new.last ≡ Given) (λ fault. new.last ≡ Refused fault)
  pub listed : new.listed ≡ old.listed
  pub gave : MatchResult answer (λ _. new.gave ≡ old.gave ++ (path, []) ∷ []) (λ _.
      new.gave ≡ old.gave)
  pub honest : OnOk answer (IsTrue old.honest → IsOpen (file old.bag path) new.rest)
  pub closed : OnErr answer (new.rest ≡ None)
  pub not_opened : OnErr answer (new.openings ≡ old.openings)
  pub refused : IfErr answer (MayRefuseOpening path old new)

-- what `read` does with a buffer of this size
pub record ReadCall (old new : TreeState) (room : ℕ) (buffer : List ℕ)
    (answer : Result ℕ TreeFault) : Type 0 where
  pub keeps : Keeps old new
  pub no_failure : OnOk answer (new.failures ≡ old.failures)
  pub openings : new.openings ≡ old.openings
  pub file_open : OnOk answer (HasOpen old × HasOpen new)
  pub within : IfOk answer (λ n. n ≤ room)
  pub given : IfOk answer (λ n. new.given ≡ old.given + n)
  pub last : MatchResult answer (λ n. new.last ≡ answer_of_read n) (λ fault.
      new.last ≡ Refused fault)
  pub listed : new.listed ≡ old.listed
  pub gave : MatchResult answer (λ n. new.gave ≡ gave_more old.gave (take n buffer)) (λ _.
      new.gave ≡ old.gave)
  pub honest : IfOk answer (λ n. IsTrue old.honest → ReadsNext old.rest new.rest n buffer)
  pub same : OnErr answer (new.rest ≡ old.rest)
  pub refused : IfErr answer (MayRefuseRead old new)
