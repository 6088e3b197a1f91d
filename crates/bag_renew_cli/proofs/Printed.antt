-- The manifest of one algorithm, as it is written.
use Rattle.bag_renew_cli.proofs.Common.{◌≡◌, ◌∷◌, ◌∙◌, ℕ, List, [], inl, refl, ap, subst, Alg, OutState, Refused, Result}
use Rattle.std.proofs.Common.{append-nil, IsTrue}
use Rattle.std.specs.Prelude.{flat_map}
use Rattle.bag_text.specs.AlgList.{with_member}
use Rattle.bag_text.specs.declared.alg.Alg.TheVariants.{Md5, Sha1, Sha224, Sha256, Sha384, Sha512}
use Rattle.bag_facts.specs.Facts.{rules_in}
use Rattle.bag_stages.specs.Payload.{payload}
use Rattle.bag_tree.specs.Tree.{Keeps, TreeState}
use Rattle.bag_program.specs.FolderDeeds.{Reports}
use Rattle.bag_checked.specs.NewManifests.{AreOfSameBytes, manifests_for}
use Rattle.bag_checked.specs.InTurn.{OpensAllInTurn}
use Rattle.bag_tags.specs.Summed.{File, manifest_by}
use Rattle.bag_report.specs.Valid.{HasNoFault}
use Rattle.bag_renew_cli.specs.Printing.{IsPrinting, text_of}

-- the set of one algorithm
pub one_alg : (alg : Alg) → with_member [] alg ≡ alg ∷ []
one_alg Md5 = refl
one_alg Sha1 = refl
one_alg Sha224 = refl
one_alg Sha256 = refl
one_alg Sha384 = refl
one_alg Sha512 = refl

module _ (alg : Alg) (algs : List Alg) (is : algs ≡ alg ∷ []) (old new : TreeState) (before after : OutState)
    (reported : Result ℕ Refused) (made : List File) where
  pub printed : Keeps old new → OpensAllInTurn old new → AreOfSameBytes algs old new made
      → (IsTrue old.honest → HasNoFault old.bag)
      → (IsTrue old.honest → made ≡ manifests_for (rules_in old.bag) algs (payload old.bag))
      → Reports (flat_map text_of made) 0 before after reported
      → IsPrinting alg old new before after reported
  printed keeps opens same valid manifests reports = record {
    keeps = keeps;
    opens = opens;
    printed = inl (record {
      made = made;
      same_bytes = subst (λ some. AreOfSameBytes some old new made) is same;
      valid = valid;
      text = λ honest.
          ap (flat_map text_of) (manifests honest ∙ ap (λ some. manifests_for (rules_in old.bag) some (payload old.bag)) is)
          ∙ append-nil (manifest_by (rules_in old.bag) alg (payload old.bag));
      reports = reports;
    });
  }
