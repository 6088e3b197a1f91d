-- What a renewal makes of a bag, of the algorithms that it had.
use Rattle.bag_renewed.proofs.Common.{◌≡◌, ◌∙◌, ◌&&◌, ◌||◌, Bool, true, false, not, cond, List, [], ap, refl, sym}
use Rattle.bag_renewed.proofs.Common.{has_member, algs_where, false≢true, has_payload_manifest, is_kept_alg, is_new_alg}
use Rattle.bag_renewed.proofs.Common.{keeps, new_algs, has_file, tag_path, Manifest, Payload, Alg, Bag, Renewal}
use Rattle.bag_renewed.specs.Target.{in_either, in_first, written_algs}
use Rattle.bag_renewed.specs.Renewed.{is_dropped_alg, reads_payload}
use Rattle.bag_renewed.specs.Target.{has_some}
use Rattle.bag_renewed.proofs.AlgsMade.{has_member_where, kept_is, none_where, same_where, some_where, writes_some}

gone_by : (had added dropped : Bool) → (had && not ((had || added) && not dropped)) ≡ (had && dropped)
gone_by true added true = refl
gone_by true added false = refl
gone_by false added dropped = refl

none_kept : (new k had : Bool) → k ≡ false → (new && (k && had)) ≡ false
none_kept new true had is = absurd (false≢true (sym is))
none_kept true false had is = refl
none_kept false false had is = refl

module _ (bag : Bag) (renewal : Renewal) (had : List Alg) (is : had ≡ algs_where (has_payload_manifest bag)) where
  there : (alg : Alg) → has_member had alg ≡ has_payload_manifest bag alg
  there alg = ap (λ set. has_member set alg) is ∙ has_member_where (has_payload_manifest bag) alg

  -- those that it had or that are added, but for those that are dropped
  pub new_are : in_first (in_either had renewal.added) renewal.dropped ≡ new_algs bag renewal
  new_are =
      same_where _ _ (λ alg. ap (λ b. b && not (has_member renewal.dropped alg))
      (has_member_where (λ a. has_member had a || has_member renewal.added a) alg
      ∙ ap (λ b. b || has_member renewal.added alg) (there alg)))

  kept_by : (k : Bool) → keeps bag renewal ≡ k
      → cond k (in_first had renewal.dropped) [] ≡ algs_where (is_kept_alg bag renewal)
  kept_by true keeps_all =
      same_where _ _ (λ alg. ap (λ b. b && not (has_member renewal.dropped alg)) (there alg)
      ∙ sym (kept_is bag renewal keeps_all alg))
  kept_by false none =
      none_where (is_kept_alg bag renewal) (λ alg.
      none_kept (is_new_alg bag renewal alg) (keeps bag renewal) (has_file bag (tag_path (Manifest Payload alg))) none)

  -- those that it had and that aren't dropped, where it keeps what needs no change
  pub kept_are : (k : Bool) → k ≡ keeps bag renewal
      → cond k (in_first had renewal.dropped) [] ≡ algs_where (is_kept_alg bag renewal)
  kept_are k same = kept_by k (sym same)

  -- those that it had and that aren't new
  pub dropped_are : in_first had (new_algs bag renewal) ≡ algs_where (is_dropped_alg bag renewal)
  dropped_are =
      same_where _ _ (λ alg. (λ i. there alg i && not (has_member_where (is_new_alg bag renewal) alg i))
      ∙ gone_by (has_payload_manifest bag alg) (has_member renewal.added alg) (has_member renewal.dropped alg))

-- the payload is read where one is written, or dropped and compared
pub reads_are : (bag : Bag) (renewal : Renewal) (written dropped : List Alg) → written ≡ written_algs bag renewal
    → dropped ≡ algs_where (is_dropped_alg bag renewal)
    → (has_some written || (not renewal.unchecked && has_some dropped)) ≡ reads_payload bag renewal
reads_are bag renewal written dropped put gone =
    let writes = ap has_some put ∙ writes_some bag renewal in
    let drops = ap has_some gone ∙ some_where (is_dropped_alg bag renewal) in
    λ i. writes i || (not renewal.unchecked && drops i)
