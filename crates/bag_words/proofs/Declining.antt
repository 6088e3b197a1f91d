-- What clap makes of words, where it gives nothing.
use Rattle.bag_words.proofs.Common.{◌≡◌, ◌∷◌, ◌∙◌, inl, inr, sym, List, [], Err, HasKind, Kinds, Row, kind_of}
use Rattle.bag_words.proofs.Common.{OutOfMemory}
use Rattle.clap.specs.declared.error.Error.{Error}
use Rattle.bag_words.proofs.OneKind.{HasOne}
use Rattle.bag_words.specs.Taken.{IsDeclined, IsTaken}
use Rattle.bag_words.specs.declared.taking.Declined.{Declined}
use Rattle.bag_words.specs.declared.taking.Declined.TheVariants.{Help, Refused, Memory}

-- its help or its refusal says the one reason
pub declined_for : (kinds : Kinds) (rows : List Row) (error : Error) (declined : Declined) → HasOne kinds
    → HasKind kinds error → IsDeclined (kind_of error) declined → (kind_of error ≡ OutOfMemory → declined ≡ Memory)
    → IsTaken kinds rows (Err declined)
declined_for kinds rows error Memory one has is memory = tt
declined_for kinds rows error declined one (inl out) is memory = rw (memory out) tt
declined_for (kind ∷ []) rows error (Help text) one (inr (inl same)) is memory = sym same ∙ is
declined_for (kind ∷ []) rows error (Refused text) one (inr (inl same)) is memory = λ e. is (same ∙ e)
declined_for [] rows error (Help text) one (inr among) is memory = absurd among
declined_for [] rows error (Refused text) one (inr among) is memory = absurd among
declined_for (kind ∷ []) rows error (Help text) one (inr (inr among)) is memory = absurd among
declined_for (kind ∷ []) rows error (Refused text) one (inr (inr among)) is memory = absurd among
declined_for (kind ∷ (other ∷ more)) rows error (Help text) one (inr among) is memory = absurd one
declined_for (kind ∷ (other ∷ more)) rows error (Refused text) one (inr among) is memory = absurd one
