-- `next` goes on, and lends what is shown for all the time that its own loan has left. The result owns memory, so the
-- borrow checker has no part in it: the walk is lent to `go_on` and comes back, is then shared until the loan ends, and
-- its last value is known at once. Assumes `Logic`.
use Rattle.bag_sources.proofs.Common.{◌≡◌, ◌++◌, ℕ, List, [], ◌∷◌, refl, subst, sym, ⊤, IfOk, option_copied, left, shown}
use Rattle.bag_sources.proofs.Common.{shown_by, went, LendsNext}
use Rattle.std.proofs.raw_atomic.Walks.{proved}
use base.Fraction.{full_share}
use base.Share
use base.FractionLaws.{common}
use base.Logic.{SProp, ent, sep, wand, emp, id⊢, apply∗}
use base.Fml.{GName, Lft, ftrue, fdead, flft, fres}
use contract.BorrowLft.{◌⊑◌, ⊑_meet, ⊑_static, ⊑_trans, meet_⊑_left, meet_⊑_right}
use types.Logic.{Logic, sem}
use mir.Syntax.{Args, Dict, a_type, dcons, dnil, erased, named}
use mir.MapTy.{inst_fn}
use mir.Val.{Val, vptr}
use contract.Monad.{fact, fact_i}
use contract.Running.{tables}
use types.Kit.{by, ‵, raw, ◌⊛◌, some, later, ◌$◌, ◌∵◌, !, qed, done, move, keep, use1, use2, split, split3, join}
use types.Kit.{fsplit, fjoin, fpack, feq_i, pick, await, use0, use3, suffices, frame}
use types.Run.{enter, of_opd, addr, stop, no_more, and_then, returns}
use types.ByLocal.{alloc_all, pass_all, free_all, look_at, get, through, sets, lands_as}
use types.Tokens.{lft_new, lft_end, lft-common}
use denote.RattleType.{RattleType}
use denote.Param.{param, bounded}
use denote.Param.Laws.{Laws, of_field, param_laws}
use denote.Param.Shared.{copy_shared}
use denote.Struct.Field.{Field, shr_ref_field, unit-field}
use denote.Struct.Laws.{shr_ref_copy, shr_ref_laws, unit-laws, unit-copy}
use denote.Ref.{MutBor, NamedLft, MutRef, mut_vals, mut_Tells}
use denote.Lend.{lends_again, comes_back, LentAgain}
use denote.Signature.{plain, mut_ref_to, type_at}
use denote.Exit.{no}
use denote.Steps.{nothing, heard, peeks}
use denote.Laws.{shows}
use denote.Shares.{Shares-less}
use borrow.Rule.Reshare.{ref_Share}
use borrow.Table.Owned as Owned
use denote.Triple.Call.{calls_at}
use denote.Triple.Clauses.{Ended, Lasts, lasts}
use denote.Triple.Spec.{triple_of}
use denote.Triple.Walked.{Stays, stay_dropped, walk_of, says, ends_at, Goes-spent_ref}
use denote.Triple.Table.{framed}
use Rattle.bag_sources.specs.declared.source.InOrder as O
use Rattle.bag_sources.specs.declared.source.Source as U
use Rattle.bag_tree.specs.declared.tree.Tree as V
use mathlib.Core.Option.{none}
use seplogic.Ra.Ura.{Ura}
use denote.Follow.{follows_by, follows_so, such_by}
use Rattle.std.specs.contracts.option.Option.{the_row as option}
use Rattle.std.proofs.option.Option.TheLaws.{the_row_laws as option_laws}
use Rattle.bag_faults.specs.contracts.fault.Fault.{the_row as fault_row}
use Rattle.bag_faults.proofs.fault.Fault.TheLaws.{the_row_laws as fault_laws}
use Rattle.bag_sources.specs.Steps.{GoesOn}
use Rattle.bag_sources.proofs.Positions.{lends_next, stops_there}
use Rattle.std.specs.contracts.result.Result.{the_row as result}
use Rattle.std.proofs.result.Result.TheLaws.{the_row_laws as result_laws}
use Rattle.bag_tree.specs.contracts.tree_fault.Stop.{the_row as stop_row}
use Rattle.bag_tree.proofs.tree_fault.Stop.TheLaws.{the_row_laws as stop_laws}
use Rattle.bag_sources.specs.contracts.steps.Steps.{the_row}
use Rattle.bag_sources.proofs.steps.Steps.TheLaws.{the_row_laws}
use Rattle.bag_sources.specs.contracts.steps.Steps.next as f
use Rattle.bag_sources.specs.contracts.steps.Steps.next.Key.{name as the_name}
use Rattle.bag_sources.specs.contracts.steps.Steps.go_on as go
use Rattle.bag_sources.specs.contracts.steps.Steps.answer as answer
use Rattle.bag_sources.proofs.steps.Steps.go_on.Met as go-met
use Rattle.bag_sources.proofs.steps.Steps.answer.Met as answer-met
use Rattle.bag_sources.proofs.steps.Steps.next.Statement.{statement}
use Rattle.bag_sources.proofs.steps.Steps.next.Code as code

module _ (T S : RattleType) (t : V.Ghosts T.Denot) (t-d : Dict) (o : O.Ghosts S.Denot T.Denot) (o-d : Dict)
    (s : U.Ghosts S.Denot T.Denot) (s-d : Dict) where
  abbrev args : Args
  args = bounded (a_type ∷ a_type ∷ []) (T, (S, tt)) (dcons t-d (dcons o-d (dcons s-d dnil)))

  abbrev R : RattleType
  R = the_row (param 0 T) (param 1 S)

  abbrev end : Ended
  end = f.ended T S t t-d o o-d s s-d

  abbrev stayed : Stays end.signature.params end.kept
  stayed = (stay_dropped (mut_ref_to (0 ∷ []) tt (plain (λ _. R))) no, tt)

  laws : Laws T → Laws S → Laws R
  laws LT LS = the_row_laws (param 0 T) (param 1 S) (param_laws 0 T LT) (param_laws 1 S LS)

  within : (κ : Lft) → κ ⊑ T.lives → κ ⊑ S.lives → κ ⊑ R.lives
  within κ a c =
      let both =
      ⊑_meet κ T.lives (S.lives ++ []) a (⊑_meet κ S.lives [] c (⊑_static κ))
      in ⊑_meet κ (T.lives ++ (S.lives ++ [])) (T.lives ++ (S.lives ++ [])) both both

-- what is stored: the answer of `go_on`, and the answer that is given
unit_laws : Laws unit-field.row
unit_laws = of_field unit-field unit-laws refl (copy_shared unit-field unit-copy)

gone_laws : Laws (result unit-field.row stop_row)
gone_laws = result_laws unit-field.row stop_row unit_laws stop_laws

abbrev own_lft : Lft → NamedLft
own_lft κ = record { mir = named 0; lft = κ }

abbrev fault_ref : Lft → Field
fault_ref κ = shr_ref_field (own_lft κ) fault_row tt

out_laws : (κ : Lft) → Laws (result (option (fault_ref κ).row) stop_row)
out_laws κ =
    result_laws (option (fault_ref κ).row) stop_row
    (option_laws (fault_ref κ).row
    (of_field (fault_ref κ) (shr_ref_laws (own_lft κ) fault_row tt) refl
    (copy_shared (fault_ref κ) (shr_ref_copy (own_lft κ) fault_row tt fault_laws.shr_laws))))
    stop_laws

-- the last value of what is lent is known at once
told : {M : Type 1} {𝓤 : Ura M} (𝓛 : Logic 𝓤) (R : RattleType) (γ : GName) (P : R.Denot → Type 0) (w : R.Denot) → P w
    → ent 𝓤 (sem 𝓛 (fres γ (R.coded.code w))) (sem 𝓛 (follows_so R R γ none (λ _ _. ⊤) P))
unfolding such_by follows_by
told 𝓛 R γ P w p = qed 𝓛 (‵ (fres γ (R.coded.code w)) ∷ []) ∵
    fpack ! ((s : (R.Denot → R.Denot) × R.Denot) × ((x : R.Denot) → ⊤) × P s.1)
    (λ s. follows_by R.Denot R.Denot R.coded.code R.coded.code γ none s.0.0 s.0.1) (((λ x. x), w), (λ x. tt), p) $
    done !

pub next_spec : {M : Type 1} → statement M
next_spec 𝓤 𝓛 𝓜 𝓡 wired T S LT LS t t-d o o-d s s-d bt bo bs =
    let c = f.clauses T S t t-d o o-d s s-d 𝓛 𝓜.mem 𝓡.returns in
    let E = end T S t t-d o o-d s s-d in
    let St = stayed T S t t-d o o-d s s-d in
    let R' = R T S t t-d o o-d s s-d in
    let As = args T S t t-d o o-d s s-d in
    let W = walk_of 𝓛 E St c in let 𝓣 = tables 𝓤 𝓛.H 𝓜 𝓡 𝓡.env in
    proved 𝓛 E St c 𝓜 𝓡 (Goes-spent_ref 𝓛 3 (0 ∷ []) tt (plain (λ _. R')), tt)
    (the_name As) (inst_fn As code.function) (code.unfolded 𝓤 𝓛.H 𝓜 𝓡 wired (T, (S, tt)) t-d o-d s-d)
    (λ κs. (mut_vals, tt)) (λ κs. (mut_Tells (named 0) κs.0 R', tt)) (λ κs qs bounds a ghost are.
    let κ = κs.0 in let κT = κs.1.0 in let κS = κs.1.1.0 in
    let q = qs.0 in let qT = qs.1.0 in let qS = qs.1.1.0 in
    let r = a.0 in let b = r.ref_ptr.0 in let k = r.ref_ptr.1 in let γ = r.ghost_name in let vs = mut_vals r in
    let y : W.Ghost = ((κs, qs, bounds, a, (vs, tt)), ghost) in
    let A = 𝓛.A in
    let others = ‵ (flft κT qT) ⊛ ‵ (flft κS qS) ⊛ ‵ ftrue in
    let Ref = λ (κ' : List ℕ) (x : MutBor R'.Denot). (MutRef (named 0) κ' R').own_val x vs in
    qed 𝓛 (((‵ (flft κ q) ⊛ others) ⊛ ‵ (Ref κ r) ⊛ ‵ ftrue)
    ∷ (raw (fact 𝓤 (κT ⊑ T.lives)) ⊛ raw (fact 𝓤 (κS ⊑ S.lives)) ⊛ ‵ ftrue) ∷ []) ∵
    split ! $ split ! $ move ! (2 ∷ []) $ split ! $ move ! (4 ∷ []) $ split3 ! $ heard ! _ (λ inT.
    heard ! _ (λ inS. keep ! (1 ∷ 3 ∷ 4 ∷ []) $
    enter ! _ _ _ _ _ $ alloc_all ! (λ l. pass_all ! refl ((tt, tt), tt) $
    -- [self; the token of κ; the other tokens]
    sets ! (addr ! (through ! refl (stop !))) refl (tt, tt) $
    move ! (1 ∷ []) $ use1 𝓛 (‵ (flft κ (Share.left q)) ⊛ ‵ (flft κ (Share.right q))) (𝓛.lfts.lft_split κ q) $ split ! $
    lft_new ! tt (λ α.
    let κ₁ = α ∷ κ in
    let q₁ = (common full_share (Share.right q)).0 in
    let Back : SProp 𝓤 = wand 𝓤 (A.lft κ₁ q₁) (sep 𝓤 (A.lft (α ∷ []) full_share) (A.lft κ (Share.right q))) in
    move ! (0 ∷ 2 ∷ []) $ use2 𝓛 (‵ (flft κ₁ q₁) ⊛ raw Back) (lft-common 𝓛 (α ∷ []) κ full_share (Share.right q)) $
    split ! $
    -- [the token of κ₁; its way back; half the token of κ; self; the other tokens]
    move ! (3 ∷ 2 ∷ []) $
    use2 𝓛 (later (some (λ (δ : GName).
    ‵ (Ref κ₁ (record r { ghost_name = δ })) ⊛ ‵ (LentAgain R' κ κ₁ (Share.left q) γ b k δ r.now))))
    (lends_again 𝓛 R' (named 0) κ κ₁ (Share.left q) γ b k (named 0) r.now) $ await ! tt $ pick ! (λ δ. split ! $
    -- [the loan; what is kept; the token of κ₁; its way back; the other tokens]
    let G = triple_of 𝓛 (go.signature T S) (go.spec T S t t-d o o-d s s-d 𝓛 𝓜.mem 𝓡.returns) in
    let bounds₁ : (κ₁ ⊑ κT) × ((κ₁ ⊑ κS) × Unit {0}) =
    (⊑_trans κ₁ κ κT (meet_⊑_right (α ∷ []) κ) bounds.0, (⊑_trans κ₁ κ κS (meet_⊑_right (α ∷ []) κ) bounds.1.0, tt))
    in
    let z : G.Ghost =
    (((κ₁, (κT, (κS, tt))), (q₁, (qT, (qS, tt))), bounds₁, (record r { ghost_name = δ }, tt), (vs, tt)), tt) in
    nothing ! $ move ! (1 ∷ 0 ∷ []) $ join ! $ move ! (2 ∷ 4 ∷ []) $ join ! $ join ! $
    nothing ! $ use0 𝓛 (raw (fact 𝓤 (κS ⊑ S.lives))) (fact_i 𝓤 (κS ⊑ S.lives) (emp 𝓤) inS) $ join ! $ use0 𝓛
    (raw (fact 𝓤 (κT ⊑ T.lives))) (fact_i 𝓤 (κT ⊑ T.lives) (emp 𝓤) inT) $ join ! $
    move ! (1 ∷ 0 ∷ []) $ join ! $ use1 𝓛 (raw (G.pre z)) (id⊢ 𝓤 _) $
    calls_at ! (framed 𝓤 𝓛.H 𝓜 (tables 𝓤 𝓛.H 𝓜 𝓡 𝓡.env)) G
    (go-met.met 𝓤 𝓛 𝓜 𝓡 (code.calls-bag_sources::steps::Steps::go_on 𝓡.env wired) T S LT LS t t-d o o-d s s-d bt bo bs)
    z
    (and_then ! (get ! refl) (no_more !)) (λ v.
    let Gone = type_at (go.signature T S).result z.0.0 in
    use1 𝓛 (later (some (λ (u : Gone.Denot). ((‵ (flft κ₁ q₁) ⊛ others) ⊛ ‵ (Gone.own_val u (v ∷ []))) ⊛
    some (λ (ws : R'.Denot × Unit {0}). ‵ (lasts (go.ended T S t t-d o o-d s s-d) z.0.0 z.0.3 ws) ⊛ raw
    (fact 𝓤 (GoesOn t s r.now ws.0 u)))))) (id⊢ 𝓤 _) $
    await ! tt $ pick ! (λ u. split ! $ split ! $ split ! $
    -- [the token of κ₁; the other tokens; the answer; the last value of the loan; what is kept; the way back]
    move ! (0 ∷ 5 ∷ []) $ use2 𝓛 (‵ (flft (α ∷ []) full_share) ⊛ ‵ (flft κ (Share.right q)))
    (apply∗ 𝓤 (A.lft κ₁ q₁) (sep 𝓤 (A.lft (α ∷ []) full_share) (A.lft κ (Share.right q)))) $ split ! $
    lft_end ! tt $ use1 𝓛 (‵ (fdead κ₁)) (𝓛.lfts.dead-incl κ₁ (α ∷ []) (meet_⊑_left (α ∷ []) κ)) $
    -- [κ₁ is over; half the token of κ; the other tokens; the answer; the last value of the loan; what is kept]
    move ! (4 ∷ []) $ pick ! (λ ws. split ! $ move ! (1 ∷ []) $ heard ! _ (λ kept. fsplit ! $ fsplit ! $
    let w = ws.0 in
    -- [the last value; its borrow; nothing; κ₁ is over; half the token of κ; the other tokens; the answer; what is
    -- kept]
    move ! (3 ∷ 7 ∷ 0 ∷ []) $ use3 𝓛 (later (‵ (Ref κ (record r { now = w })) ⊛ ‵ (flft κ (Share.left q))))
    (comes_back 𝓛 R' (named 0) κ κ₁ (Share.left q) γ b k δ r.now w) $ await ! tt $ split ! $
    -- [self; half the token of κ; the borrow; nothing; the other half; the other tokens; the answer]
    move ! (1 ∷ 4 ∷ []) $ use2 𝓛 (‵ (flft κ q)) (𝓛.lfts.lft_join κ q) $ move ! (1 ∷ []) $ fsplit ! $ move ! (1 ∷ 2 ∷ [])
    $
    use2 𝓛 (later (‵ ((Owned.ShrRef erased κ R').own_val (record { ref_ptr = (b, k); now = w })) ⊛ ‵
    (fres γ (R'.coded.code w)) ⊛ ‵ (flft κ q)))
    (ref_Share 𝓛 R' b k γ w (laws T S t t-d o o-d s s-d LT LS).shr_laws κ q
    (Shares-less 𝓛 R' R'.lives κ
    (within T S t t-d o o-d s s-d κ (⊑_trans κ κT T.lives bounds.0 inT) (⊑_trans κ κS S.lives bounds.1.0 inS))
    ((laws T S t t-d o o-d s s-d LT LS).shares 𝓛))) $
    await ! tt $ split3 ! $
    -- [what is shared; the last value of self; the token of κ; its pointer; the borrow; nothing; the other tokens; the
    -- answer]
    move ! (7 ∷ []) $ peeks ! Gone _ (shows 𝓛 Gone) u (v ∷ []) (λ is.
    lands_as ! refl refl ((gone_laws.lawful 𝓛).typed u (v ∷ []) is).0 $
    -- [the answer; what is shared; the last value of self; the token of κ; its pointer; the borrow; nothing; the other
    -- tokens]
    sets ! (addr ! (through ! refl (stop !))) refl (tt, tt) $ sets ! (of_opd ! (get ! refl)) refl
    ((gone_laws.lawful 𝓛).typed u (v ∷ []) is).0 $
    let G₂ = triple_of 𝓛 (answer.signature T S) (answer.spec T S t t-d o o-d s s-d 𝓛 𝓜.mem 𝓡.returns) in
    let z₂ : G₂.Ghost =
    ((κs, qs, bounds, (record { ref_ptr = (b, k); now = w }, (u, tt)), (vptr b k ∷ [], (v ∷ [], tt))), tt) in
    feq_i ! (List Val) (vptr b k ∷ []) (vptr b k ∷ []) refl $ move ! (0 ∷ 2 ∷ []) $ fjoin ! $
    nothing ! $ move ! (2 ∷ 0 ∷ []) $ join ! $ move ! (1 ∷ 0 ∷ []) $ join ! $ move ! (2 ∷ 6 ∷ []) $ join ! $ join ! $
    nothing ! $ use0 𝓛 (raw (fact 𝓤 (κS ⊑ S.lives))) (fact_i 𝓤 (κS ⊑ S.lives) (emp 𝓤) inS) $ join ! $ use0 𝓛
    (raw (fact 𝓤 (κT ⊑ T.lives))) (fact_i 𝓤 (κT ⊑ T.lives) (emp 𝓤) inT) $ join ! $
    move ! (1 ∷ 0 ∷ []) $ join ! $ use1 𝓛 (raw (G₂.pre z₂)) (id⊢ 𝓤 _) $
    calls_at ! (framed 𝓤 𝓛.H 𝓜 (tables 𝓤 𝓛.H 𝓜 𝓡 𝓡.env)) G₂
    (answer-met.met 𝓤 𝓛 𝓜 𝓡 (code.calls-bag_sources::steps::Steps::answer 𝓡.env wired) T S LT LS t t-d o o-d s s-d bt
    bo bs) z₂
    (and_then ! (get ! refl) (and_then ! (get ! refl) (no_more !))) (λ v₂.
    let Out = type_at (answer.signature T S).result κs in
    use1 𝓛 (later (some (λ (x : Out.Denot). ((‵ (flft κ q) ⊛ others) ⊛ ‵ (Out.own_val x (v₂ ∷ []))) ⊛
    some (λ (ws₂ : Lasts (answer.ended T S t t-d o o-d s s-d) z₂.0.0 z₂.0.3).
    ‵ (lasts (answer.ended T S t t-d o o-d s s-d) z₂.0.0 z₂.0.3 ws₂) ⊛
    raw (fact 𝓤 (went x ≡ u)) ⊛ raw
    (fact 𝓤 (IfOk x (λ f. option_copied f ≡ shown_by w.is_shown (s.found w.source)))))))) (id⊢ 𝓤 _) $
    await ! tt $ pick ! (λ x.
    split ! $ split ! $ move ! (2 ∷ []) $ pick ! (λ ws₂.
    split3 ! $ move ! (1 ∷ []) $ heard ! _ (λ same. move ! (1 ∷ []) $ heard ! _ (λ lent. move ! (2 ∷ []) $
    -- [the answer; nothing; the tokens; the last value of self]
    peeks ! Out _ (shows 𝓛 Out) x (v₂ ∷ []) (λ is₂.
    lands_as ! refl refl (((out_laws κ).lawful 𝓛).typed x (v₂ ∷ []) is₂).0 $
    returns ! (look_at ! 0 refl) $ free_all ! refl $ keep ! (3 ∷ 0 ∷ 2 ∷ []) $
    let goes = subst (GoesOn t s r.now w) (sym same) kept in
    let Now = LendsNext t s r.now in
    use1 𝓛 (‵ (follows_so R' R' γ none (λ _ _. ⊤) (λ new. Now new x))) (told 𝓛 R' γ (λ new. Now new x) w (goes, lent)) $
    suffices ! _ (ends_at 𝓛 E St c y v₂ x (tt, tt) (tt, tt)) $
    move ! (1 ∷ []) $ nothing ! $ nothing ! $ fjoin ! $ join ! $ move ! (2 ∷ 0 ∷ []) $ join ! $ frame ! $ frame ! $
    says ! (stops_there x (t.state r.now.tree) (t.state w.tree) (s.todo r.now.source) (s.todo w.source) _ goes.keeps
    goes.again goes.stop goes.anyway) $
    nothing ! $ by ! (fact_i 𝓤 _ (emp 𝓤) (λ check position of sees stands.
    lends_next check position x (shown s w) (left s check.bag w) _ (goes.position check position (of, sees) stands)
    lent)))))))))))))))))))
