-- Which files a renewal opens, also where it is refused.
use Rattle.bag_changes.proofs.Common.{◌≡◌, ◌∙◌, ◌++◌, ◌∷◌, ◌&&◌, ◌||◌, ◌⊎◌, inl, inr, ℕ, Bool, true, false, not, IsTrue}
use Rattle.bag_changes.proofs.Common.{List, [], All, All-append, All-contains, All-map, All-nil, Alg, ap, append_assoc}
use Rattle.bag_changes.proofs.Common.{arith, false≢true, false_from_ne_true, is_payload_path, keeps, map, new_algs, refl}
use Rattle.bag_changes.proofs.Common.{subst, sym, take, has_member, has_payload_manifest, is_new_alg, Bag, File, IsBag}
use Rattle.bag_changes.proofs.Common.{Renewal, files_of, rules_in, IsOutOfTheWay}
use Rattle.std.proofs.lemmas.List.Elements.{All-take}
use Rattle.std.proofs.lemmas.List.Folds.{list_any_none}
use Rattle.bag_facts.proofs.Mapped.{kept as among}
use Rattle.bag_facts.proofs.Opens.{opens_none}
use Rattle.bag_facts.specs.FactsOfBag.{IsFactsOf}
use Rattle.bag_facts.specs.Wanted.{IsWanted, OpensWanted}
use Rattle.bag_facts.specs.declared.facts.Facts.{Facts}
use Rattle.bag_faults.specs.declared.fault.Fault.{Fault}
use Rattle.bag_text.specs.Code.{stage}
use Rattle.bag_tree.specs.Tree.{TreeState}
use Rattle.bag_tree.specs.declared.tree_fault.Stop.{Stop}
use Rattle.bag_renewed.proofs.AlgsMade.{kept_is}
use Rattle.bag_changes.proofs.AlgsWhere.{passes}
use Rattle.bag_changes.proofs.DroppedManifests.{none_dropped}
use Rattle.bag_checked.proofs.CheckedBag.{deep, none_early}
use Rattle.bag_changes.proofs.NoPayload.{no_payload_tag}
use Rattle.bag_changes.specs.NewInfo.{IsInfoRefusal}
use Rattle.bag_changes.specs.Openings.{AsksNoReading, IsReadyFor, OpensBefore}
use Rattle.bag_checked.specs.InTurn.{IsEarly, IsOfSeventh, OpensFirstToRead, OpensInTurn}
use Rattle.bag_changes.specs.Openings.{OpensForRenewal, OpensNoPayload}
use Rattle.bag_changes.specs.Reading.{AllowsRenewal, IsRefusalOf, IsRefusalOfStop}
use Rattle.bag_renewed.specs.Renewed.{drops_payload_manifest, is_kept_alg, is_v10, reads_payload}
use Rattle.bag_renewed.specs.Renewed.{writes_payload_manifest}
use Rattle.bag_checked.specs.Summed.{files_to_read, is_to_read}
use Rattle.bag_report.specs.Valid.{full}
use Rattle.bag_checked.specs.declared.checked.Unchecked.{Unchecked}
use Rattle.bag_checked.specs.declared.checked.Unchecked.TheVariants.{Faulty, Stopped}
use Rattle.bag_changes.specs.declared.fault.RenewFault.{RenewFault}
use Rattle.bag_changes.specs.declared.fault.RenewFault.TheVariants as why
use Rattle.bag_renewed.specs.declared.target.Target.{Target}
use Rattle.bag_checked.proofs.InTurn.{each_of, still_in_turn, tags_alone, then_first}

-- ---- of the payload none

-- where no algorithm is added, each that a bag of 1.0 is to have is kept; and none is dropped, but unchecked
module _ (bag : Bag) (renewal : Renewal) (asks : AsksNoReading renewal) where
  had : (b added dropped : Bool) → added ≡ false → ((b || added) && not dropped) ≡ true → (b && not dropped) ≡ true
  had true added dropped none new = new
  had false added dropped none new = absurd (false≢true (sym (ap (λ a. a && not dropped) none) ∙ new))

  kept : keeps bag renewal ≡ true → (alg : Alg) → is_new_alg bag renewal alg ≡ true → is_kept_alg bag renewal alg ≡ true
  kept is alg new =
      kept_is bag renewal is alg
      ∙ had (has_payload_manifest bag alg) (has_member renewal.added alg) (has_member renewal.dropped alg)
      (asks.added alg) new

  none_written : keeps bag renewal ≡ true → writes_payload_manifest bag renewal ≡ false
  none_written is =
      let test = λ (alg : Alg). not (is_kept_alg bag renewal alg) in
      list_any_none test (new_algs bag renewal)
      (each_of (λ alg. test alg ≡ false) (new_algs bag renewal)
      (λ alg has. ap not (kept is alg (passes (is_new_alg bag renewal) alg has))))

  neither : (writes unchecked drops : Bool) → writes ≡ false → (unchecked ≡ true) ⊎ (drops ≡ false)
      → (writes || (not unchecked && drops)) ≡ false
  neither true unchecked drops none h = absurd (false≢true (sym none))
  neither false true drops none h = refl
  neither false false drops none (inl is) = absurd (false≢true is)
  neither false false drops none (inr is) = is

  none_read : keeps bag renewal ≡ true → reads_payload bag renewal ≡ false
  none_read is =
      neither (writes_payload_manifest bag renewal) renewal.unchecked (drops_payload_manifest bag renewal)
      (none_written is) (elim asks.dropped [ inl un ↦ inl un | inr none ↦ inr (none_dropped bag renewal none) ])

  stays : (is_new to_1_0 : Bool) → to_1_0 ≡ false → (is_new || not to_1_0) ≡ true
  stays true to_1_0 none = refl
  stays false to_1_0 none = ap not none

  keeps_all : keeps bag renewal ≡ true
  keeps_all = stays (is_v10 (rules_in bag)) renewal.to_1_0 asks.version

-- so no file of the payload is read
no_payload_file : (files : List File)
    → All (λ path. is_payload_path path ≡ false) (map (λ e. e.0) (files_to_read false files))
no_payload_file files =
    All-map (λ path. is_payload_path path ≡ false) (λ (e : File). e.0) (files_to_read false files)
    (each_of (λ (e : File). is_payload_path e.0 ≡ false) (files_to_read false files)
    (λ e c. isnt (is_payload_path e.0) (among (λ (x : File). is_to_read false x.0) files e c).0))
  where
    isnt : (b : Bool) → not b ≡ true → b ≡ false
    isnt false h = refl
    isnt true h = sym h

tag_path_only : (path : List ℕ) → IsWanted full path → is_payload_path path ≡ false
tag_path_only path (name, at, wants) =
    false_from_ne_true (is_payload_path path)
    (λ is. no_payload_tag name (ap is_payload_path at ∙ is))

module _ (renewal : Renewal) (old new : TreeState)
    (h : OpensInTurn (λ bag. reads_payload bag renewal) (IsReadyFor renewal old) old new) where
  abbrev NoPayload : List (List ℕ) → Type 0
  NoPayload paths = All (λ path. is_payload_path path ≡ false) paths

  read_by : AsksNoReading renewal → (read : List (List ℕ)) → h.read ≡ read → NoPayload read
  read_by asks [] is = All-nil (λ path. is_payload_path path ≡ false)
  read_by asks (x ∷ xs) is =
      let none = none_read h.bag renewal asks (keeps_all h.bag renewal asks) in
      subst NoPayload
      (sym (h.first.1 ∙ ap (λ b. take h.first.0 (map (λ (e : File). e.0) (files_to_read b (files_of h.bag)))) none) ∙ is)
      (All-take (λ path. is_payload_path path ≡ false) h.first.0 _ (no_payload_file (files_of h.bag)))

  tags_none : NoPayload h.tags
  tags_none = each_of (λ path. is_payload_path path ≡ false) h.tags
      (λ path c. tag_path_only path (All-contains (IsWanted full) h.tags path h.wanted c))

  pub opens_no_payload : AsksNoReading renewal → OpensNoPayload old new
  opens_no_payload asks = (
    h.tags ++ h.read,
    h.opened ∙ append_assoc old.openings h.tags h.read,
    All-append (λ path. is_payload_path path ≡ false) h.tags h.read tags_none (read_by asks h.read refl),
  )

  pub for_renewal : OpensForRenewal renewal old new
  for_renewal = record { in_turn = h; no_payload = opens_no_payload }

-- ---- of a renewal

module _ (renewal : Renewal) (old mid new : TreeState) (is_bag : IsBag old.bag) where
  pub for_renewal_of_tags : OpensWanted full old new → OpensForRenewal renewal old new
  for_renewal_of_tags tags =
      for_renewal renewal old new
      (tags_alone (λ bag. reads_payload bag renewal) (IsReadyFor renewal old) old new new is_bag tags)

  pub for_renewal_of_none : new.openings ≡ old.openings → OpensForRenewal renewal old new
  for_renewal_of_none same = for_renewal_of_tags (opens_none full old new same)

  pub for_renewal_of_files : (facts : Facts) → facts.options ≡ full
      → ((bag : Bag) × IsBag bag × IsFactsOf bag facts) → (IsTrue old.honest → IsFactsOf old.bag facts)
      → OpensWanted full old mid → (target : Target) → AllowsRenewal facts renewal target
      → (IsTrue old.honest → IsOutOfTheWay old.bag)
      → OpensFirstToRead target.reads_payload facts.listing.files mid new → OpensForRenewal renewal old new
  for_renewal_of_files facts options seen of tags target allows way first =
      for_renewal renewal old new
      (then_first (λ bag. reads_payload bag renewal) (IsReadyFor renewal old) old mid new is_bag facts seen of tags
      target.reads_payload
      (λ bag is. (allows.decided bag is (deep facts bag is options)).reads_payload)
      (λ bag is. record {
        none_early = none_early facts bag is options allows.none;
        free = allows.free bag is (deep facts bag is options);
        way = way;
        names = allows.names bag is (deep facts bag is options);
        info = allows.info bag is (deep facts bag is options);
      })
      first)

pub for_renewal_still : (renewal : Renewal) (old read new : TreeState) → OpensForRenewal renewal old read
    → new.openings ≡ read.openings → OpensForRenewal renewal old new
for_renewal_still renewal old read new h same =
    for_renewal renewal old new
    (still_in_turn (λ bag. reads_payload bag renewal) (IsReadyFor renewal old) old read new h.in_turn same)

-- ---- refusals before a file is opened a second time

seventh_not_early : (fault : Fault) → stage fault.code ≡ 7 → IsEarly fault → ⊥
seventh_not_early fault is early = omega (arith, is, early)

before_by_stop : (old new : TreeState) (stop : Stop) (fault : RenewFault) → IsRefusalOfStop stop fault
    → OpensBefore old new fault
before_by_stop old new stop why.Memory h = λ before. absurd before
before_by_stop old new stop (why.ReadStopped other) h = λ before. absurd before
before_by_stop old new stop _ h = absurd h

pub before_by_check : (old new : TreeState) (e : Unchecked) (fault : RenewFault) → IsOfSeventh e
    → IsRefusalOf e fault → OpensBefore old new fault
before_by_check old new (Stopped stop) fault h is = before_by_stop old new stop fault is
before_by_check old new (Faulty found) fault h is =
    subst (OpensBefore old new) (sym is) (λ early. absurd (seventh_not_early found h early))

pub before_by_info : (bag : Bag) (renewal : Renewal) (lines : List (List ℕ)) (old new : TreeState) (fault : RenewFault)
    → IsInfoRefusal bag renewal lines fault → OpensBefore old new fault
before_by_info bag renewal lines old new why.BadValue h = λ before. absurd before
before_by_info bag renewal lines old new why.Memory h = λ before. absurd before
before_by_info bag renewal lines old new _ h = absurd h.1
