-- A file that is begun beside the others makes no fault.
use Rattle.bag_renew.proofs.Common.{◌≡◌, ◌≢◌, ◌⊎◌, ◌∙◌, inl, inr, ℕ, true, List, Some, is_some, refl, ap, sym, cond}
use Rattle.bag_renew.proofs.Common.{subst}
use Rattle.bag_renew.proofs.Common.{false_from_ne_true, nat_list_cmp_total, get-insert, one_text, is_payload_path}
use Rattle.bag_renew.proofs.Common.{manifest_name, Kind, Payload, Tag, Declaration, Fetch, Info, Alg, name, Bag, file}
use Rattle.bag_renew.proofs.Common.{begun_file, create, stays}
use Rattle.bag_stages.specs.FetchStage.{fetch_txt}
use Rattle.bag_stages.specs.MetadataStage.{bag_info_txt}
use Rattle.bag_stages.specs.TagFiles.{bagit_txt, lines_in, manifest_of}
use Rattle.bag_facts.specs.Facts.{IsByV10, rules_in}
use Rattle.bag_stages.specs.LeftOut.{IsLeftOutByAll}
use Rattle.bag_renew.proofs.AlikeFaults.{AreAlike, alike_by_rules, names_now}
use Rattle.bag_renew.proofs.BetweenFaults.{HasNoPayloadManifest, IsBetween, IsBetweenByV097, IsTagManifestOf}
use Rattle.bag_renew.proofs.BetweenFaults.{MayBeListed, no_manifest_begun}
use Rattle.bag_renew.proofs.OnTheWayFiles.{same_rules}
use Rattle.bag_renew.proofs.ReadAlike.{ReadAlike, SplitAlike}
use Rattle.bag_changes.proofs.Staying.{itself, no_begun, no_payload_name, stays_so}

module _ (mid old new : Bag) (found : List ℕ) (between : IsBetween mid old new) where
  abbrev begun : Bag
  begun = create begun_file found mid

  pub elsewhere : (q : List ℕ) → q ≢ begun_file → file begun q ≡ file mid q
  elsewhere q other =
      get-insert nat_list_cmp_total mid.files begun_file found q
      ∙ ap (λ t. cond t (Some found) (file mid q)) (false_from_ne_true _ (λ same. other (one_text q begun_file same)))

  pub stays_elsewhere : (q : List ℕ) → stays q ≡ true → file begun q ≡ file mid q
  stays_elsewhere q is =
      elsewhere q (λ same. itself begun_file (stays_so begun_file (ap stays (sym same) ∙ is)).begun)

  pub at_manifest : (kind : Kind) (alg : Alg) → file begun (manifest_of kind alg) ≡ file mid (manifest_of kind alg)
  at_manifest kind alg = elsewhere (manifest_of kind alg) (no_manifest_begun kind (name alg))

  same_declaration : file begun bagit_txt ≡ file mid bagit_txt
  same_declaration = elsewhere bagit_txt (λ same. no_begun Declaration (sym same))

  same_info : file begun bag_info_txt ≡ file mid bag_info_txt
  same_info = elsewhere bag_info_txt (λ same. no_begun Info (sym same))

  -- by the same rules
  by_same : rules_in begun ≡ rules_in mid
  by_same = same_rules begun mid same_declaration

  payload_alike : (q : List ℕ) → is_payload_path q ≡ true → file begun q ≡ file mid q
  payload_alike q of_it = elsewhere q (λ same. no_payload_name begun_file refl (ap is_payload_path (sym same) ∙ of_it))

  same_fetch : file begun fetch_txt ≡ file mid fetch_txt
  same_fetch = elsewhere fetch_txt (λ same. no_begun Fetch (sym same))

  alike : (base : Bag) → AreAlike mid base → AreAlike begun base
  alike base are = record {
    v10 = λ ruled. are.v10 (sym by_same ∙ ruled);
    manifests = λ kind alg.
        subst (λ rules. ReadAlike rules (rules_in base) kind alg (lines_in base (manifest_of kind alg))) (sym by_same)
        (are.manifests kind alg);
    metadata = subst (λ rules. SplitAlike rules (rules_in base) (lines_in base bag_info_txt)) (sym by_same)
        are.metadata;
    list = λ has. by_same ∙ are.list has;
    fetch = same_fetch ∙ are.fetch;
    payload_file = λ q of_it. payload_alike q of_it ∙ are.payload_file q of_it;
  }

  as_mid : AreAlike begun mid
  as_mid = alike_by_rules begun mid by_same same_fetch payload_alike

  -- what the payload manifests leave out, they left out before
  left_out_before : (path : List ℕ) → IsLeftOutByAll begun path → IsLeftOutByAll mid path
  left_out_before path ((alg, has), unnamed) = (
    (alg, ap is_some (sym (at_manifest Payload alg)) ∙ has),
    λ named. unnamed (named.0, names_now begun mid as_mid Payload named.0 (at_manifest Payload named.0) path named.1),
  )

  may_before : (path : List ℕ) → MayBeListed begun path → MayBeListed mid path
  may_before path (inl there) = inl (ap is_some (sym (payload_alike path there.1)) ∙ there.0, there.1)
  may_before path (inr there) = inr (ap is_some (sym same_fetch) ∙ there)

  ruled : IsByV10 mid ⊎ IsBetweenByV097 mid old new → IsByV10 begun ⊎ IsBetweenByV097 begun old new
  ruled (inl v10) = inl (by_same ∙ v10)
  ruled (inr by_v097) = inr (record {
    rules = by_same ∙ by_v097.rules;
    left_out = λ path may out. by_v097.left_out path (may_before path may) (left_out_before path out);
  })

  none_before : HasNoPayloadManifest begun → HasNoPayloadManifest mid
  none_before none alg has =
      none alg
      (has.0, ap is_some (elsewhere (manifest_name Payload alg) (no_manifest_begun Payload alg)) ∙ has.1)

  still_of : (base : Bag) (alg : Alg) (text : List ℕ) → IsTagManifestOf base mid alg text
      → IsTagManifestOf base begun alg text
  still_of base alg text is = record {
    text_is = is.text_is;
    files = λ q other unbegun. elsewhere q unbegun ∙ is.files q other unbegun;
  }

  tags : (alg : Alg) (text : List ℕ) → file begun (manifest_of Tag alg) ≡ Some text
      → IsTagManifestOf old begun alg text ⊎ IsTagManifestOf new begun alg text
  tags alg text at = elim (between.tags alg text (sym (at_manifest Tag alg) ∙ at)) [
    | inl is ↦ inl (still_of old alg text is)
    | inr is ↦ inr (still_of new alg text is)
  ]

  pub with_begun : IsBetween begun old new
  with_begun = record {
    rules = ruled between.rules;
    as_old = alike old between.as_old;
    as_new = alike new between.as_new;
    folders = between.folders;
    declaration = same_declaration ∙ between.declaration;
    info = elim between.info [ inl was ↦ inl (same_info ∙ was) | inr is ↦ inr (same_info ∙ is) ];
    either = λ q c unbegun at. between.either q c unbegun (sym (elsewhere q unbegun) ∙ at);
    no_manifest = λ none. between.no_manifest (none_before none);
    tags = tags;
    old_begun = between.old_begun;
    new_begun = between.new_begun;
  }
