-- Payload manifests that are dropped.
use Rattle.bag_changes.proofs.Common.{◌≡◌, ◌&&◌, ◌||◌, Bool, true, false, not, sym, refl, any_from, false≢true, or_right, algs}
use Rattle.bag_changes.proofs.Common.{has_member, has_payload_manifest, Alg, Bag, Renewal}
use Rattle.std.proofs.lemmas.List.Folds.{list_any_none}
use Rattle.std.proofs.lemmas.List.Elements.{All-from_recursion}
use Rattle.bag_text.proofs.AlgSets.{each_is_listed}
use Rattle.bag_text.proofs.ListOf.{each_from_members}
use Rattle.bag_renewed.specs.Renewed.{drops_payload_manifest, is_dropped_alg, reads_payload, writes_payload_manifest}

compared : (unchecked drops : Bool) → unchecked ≡ false → drops ≡ true → (not unchecked && drops) ≡ true
compared false drops is some = some
compared true drops is some = absurd (false≢true (sym is))

not_there : (had dropped : Bool) → dropped ≡ false → (had && dropped) ≡ false
not_there true dropped is = is
not_there false dropped is = refl

module _ (bag : Bag) (renewal : Renewal) where
  -- where one is dropped, but for unchecked, the payload is read
  pub read_to_drop : renewal.unchecked ≡ false → (alg : Alg) → is_dropped_alg bag renewal alg ≡ true
      → reads_payload bag renewal ≡ true
  read_to_drop is alg dropped =
      or_right (writes_payload_manifest bag renewal) _
      (compared renewal.unchecked (drops_payload_manifest bag renewal) is
      (any_from (is_dropped_alg bag renewal) algs alg (each_is_listed alg) dropped))

  -- where no algorithm is dropped, none is
  pub none_dropped : ((alg : Alg) → has_member renewal.dropped alg ≡ false) → drops_payload_manifest bag renewal ≡ false
  none_dropped none =
      list_any_none (is_dropped_alg bag renewal) algs
      (All-from_recursion (λ alg. is_dropped_alg bag renewal alg ≡ false) algs
      (each_from_members (λ alg. is_dropped_alg bag renewal alg ≡ false) algs
      (λ alg has. not_there (has_payload_manifest bag alg) (has_member renewal.dropped alg) (none alg))))
