-- What clap makes of the words of a command.
use Rattle.std.specs.Prelude.{◌≡◌, ◌≢◌, ◌∷◌, ⊤, List, [], Result, Ok, Err, true}
use Rattle.clap.specs.Simple.{built}
use Rattle.clap.specs.Words.{App, Kinds, Row, is_simple, is_simple_and_free}
use Rattle.clap.specs.declared.error.kind.ErrorKind.{ErrorKind}
use Rattle.clap.specs.declared.error.kind.ErrorKind.TheVariants.{DisplayHelp}
use Rattle.clap.specs.declared.parser.matches.ArgMatches.{ArgMatches}
use Rattle.bag_words.specs.Rows.{rows_in}
use Rattle.bag_words.specs.declared.taking.Declined.{Declined}
use Rattle.bag_words.specs.declared.taking.Declined.TheVariants.{Help, Refused, Memory}

-- a command without subcommands, whose arguments have no rule from one to another
pub record IsPlain (app : App) : Type 0 where
  pub simple : is_simple app ≡ true
  pub free : is_simple_and_free app ≡ true
  pub alone : (built app).subs ≡ []
  pub leaf : (built app).top.is_leaf ≡ true

-- its help where that is asked for, and else its refusal; or memory ran out
abbrev pub IsDeclined : ErrorKind → Declined → Type 0
IsDeclined kind (Help text) = kind ≡ DisplayHelp
IsDeclined kind (Refused text) = kind ≢ DisplayHelp
IsDeclined kind Memory = ⊤

-- by why the words are refused, or that help is asked for, and by what is given where they are
-- taken
abbrev pub IsTaken : Kinds → List Row → Result ArgMatches Declined → Type 0
IsTaken kinds rows (Ok m) = (kinds ≡ []) × (rows_in m ≡ rows)
IsTaken kinds rows (Err Memory) = ⊤
IsTaken [] rows (Err declined) = ⊥
IsTaken (kind ∷ more) rows (Err declined) = IsDeclined kind declined
