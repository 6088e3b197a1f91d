-- A limit that clap takes is a number of 1 or more.
use Rattle.bag_arguments.proofs.Common.{◌≡◌, ◌∙◌, ◌==◌, ◌||◌, ◌<◌, ℕ, Bool, true, false, not, List, [], ◌∷◌, Option}
use Rattle.bag_arguments.proofs.Common.{Some, None, Result, Ok, Err, refl, sym, ap, subst, arith, inl, inr, length, codes}
use Rattle.bag_arguments.proofs.Common.{bytes_eq, option_map, unwrap_or, slice_get, Bor, All, list_all, slice_index_or}
use Rattle.bag_arguments.proofs.Common.{ParsesUnsigned, All-get_or, bytes_eq-Decides, App, IsParsedFrom, Rule, Text}
use Rattle.bag_arguments.proofs.Common.{app_of, args_of, first_value, found_of, groups_of, matched_of, rows_of}
use Rattle.bag_arguments.proofs.Common.{EntryPasses, PassesArg, parser_of_value, Arg, Command, ValueParser}
use Rattle.bag_arguments.proofs.Common.{first_value-rows, HasLimit, IsLimit, IsLimitText, command, clap_on_literals}
use Rattle.std.specs.Prelude.{MatchResult}
use Rattle.std.specs.Result.{IfOk, result_ok}
use Rattle.bag_words.specs.Rows.{rows_in}
use Rattle.std.proofs.lemmas.Bool.{cases_lt, eqb-true}
use Rattle.clap.specs.Built.{SameRules}
use Rattle.clap.specs.Values.{Accepts}
use Rattle.clap.specs.declared.builder.value_parser.ValueParser.TheVariants as parser
use Rattle.clap.specs.declared.parser.matches.ArgMatches.{ArgMatches}
use Rattle.clap.specs.declared.parser.matches.MatchedArg.{MatchedArg}
use Rattle.clap.proofs.CallerLemmas.{entry_by_id}
use Rattle.clap.proofs.SimpleLemmas.{plain_fields, simple_groups}
use Rattle.clap.proofs.TakesLemmas.{each_rule}

-- the parser takes numbers of 1 or more, and nothing else
abbrev takes_limits : Option ValueParser → Bool
takes_limits (Some (parser.Unsigned low high)) = low == 1
takes_limits other = false

abbrev limits_pass : Rule → Bool
limits_pass a = not (bytes_eq a.id (codes "max-faults")) || takes_limits a.parser

computed : (list_all limits_pass command.top.rules ≡ true)
    × (list_all (λ (a : Rule). a.is_simple) command.top.rules ≡ true) × (command.top.is_plain ≡ true)
unfolding command clap_on_literals
computed = (refl, refl, refl)

-- the argument of the limit, as it was added
old_limit : (old : Command) → app_of old ≡ command → (k : ℕ) (d : Arg) → k < length (args_of old)
    → (slice_index_or (args_of old) k d).id.now ≡ codes "max-faults"
    → takes_limits (slice_index_or (args_of old) k d).value_parser ≡ true
old_limit old is k d lt named = grind (arith, computed, each_rule, bytes_eq-Decides)

same_limit : (a b : Arg) → SameRules a b → takes_limits a.value_parser ≡ true → takes_limits b.value_parser ≡ true
same_limit a b s e = grind arith

-- the argument of the limit, as it was built
built_limit : (old : Command) (m : ArgMatches) (p : IsParsedFrom old m) → app_of old ≡ command
    → (j : ℕ) (x : Arg) → j < length (args_of p.built) → slice_index_or (args_of p.built) j x ≡ x
    → x.id.now ≡ codes "max-faults"
    → takes_limits x.value_parser ≡ true
built_limit old m p is j x high at named = grind (arith, cases_lt, same_limit, old_limit, bytes_eq-Decides)

accepted : (o : Option ValueParser) (ignore_case : Bool) (text : Text) → takes_limits o ≡ true
    → Accepts ignore_case (parser_of_value o) text → IsLimitText text
accepted o ignore_case text e h = grind (arith, eqb-true)

value_accepted : (old : Command) (m : ArgMatches) (p : IsParsedFrom old m) → app_of old ≡ command
    → (text : Text) → PassesArg p.built (codes "max-faults") text → IsLimitText text
value_accepted old m p is text any =
    accepted any.1.value_parser any.1.ignore_case text
    (built_limit old m p is any.0 any.1 any.2 any.3 ((bytes_eq-Decides any.1.id.now (codes "max-faults")).0 any.4.0))
    any.4.1

first_passes : (P : Text → Type 0) (vs : List (Bor Text)) (text : Text) → All (λ v. P v.now) vs
    → option_map (λ s. s.now) (slice_get vs 0) ≡ Some text → P text
first_passes P [] text h e = cc
first_passes P (v ∷ vs) text h e =
    subst P (ap (λ o. unwrap_or o v.now) e) (All-get_or (λ v. P v.now) (v ∷ vs) 0 v (omega arith) h)

-- the value of an entry of the limit
entry_value : (old : Command) (m : ArgMatches) (p : IsParsedFrom old m) → app_of old ≡ command → (x : MatchedArg)
    → matched_of (found_of m) (codes "max-faults") ≡ Some x
    → (text : Text) → option_map (λ s. s.now) (slice_get x.vals.items 0) ≡ Some text
    → PassesArg p.built (codes "max-faults") text
entry_value old m p is x found text first =
    let plain = plain_fields old (subst (λ (a : App). a.top.is_plain ≡ true) (sym is) computed.2) in
    let simple = subst (λ (a : App). list_all (λ (r : Rule). r.is_simple) a.top.rules ≡ true) (sym is) computed.1 in
    let no_groups : groups_of p.built ≡ [] = (p.from.same_groups (simple_groups old simple)).1 ∙ plain.groups in
    let parsed = p.parsed (p.from.globals ∙ plain.globals) in
    let got = entry_by_id (EntryPasses p.built) (found_of m).entries.items (codes "max-faults") x parsed.values found in
    let named : got.0.0.now ≡ codes "max-faults" = (bytes_eq-Decides _ _).0 got.2 in
    let no_group : got.0.1.is_group ≡ true → ⊥ = λ g. elim (got.3.3 g) [
      | inl empty ↦
          let bad : codes "max-faults" ≡ [] = sym named ∙ empty in
          cc
      | inr lots ↦
          let bad : 0 < 0 = rw no_groups at lots in
          absurd (omega arith)
    ] in
    let all : All (λ v. PassesArg p.built (codes "max-faults") v.now) x.vals.items = elim got.3.0 [
      | inl g ↦ absurd (no_group g)
      | inr vals ↦ subst (λ (w : Text). All (λ v. PassesArg p.built w v.now) x.vals.items) named (rw got.1 at vals)
    ] in
    first_passes (PassesArg p.built (codes "max-faults")) x.vals.items text all first

-- the limit that a parse gives
limit_passes : (old : Command) (m : ArgMatches) → IsParsedFrom old m → app_of old ≡ command
    → HasLimit (rows_of (found_of m))
limit_passes old m p is text limit =
    go (matched_of (found_of m) (codes "max-faults")) refl (first_value-rows (found_of m) (codes "max-faults") ∙ limit)
  where
    go : (o : Option MatchedArg) → matched_of (found_of m) (codes "max-faults") ≡ o
        → first_value (found_of m) (codes "max-faults") ≡ Some text → IsLimitText text
    go None found first = let bad : None ≡ Some text = rw found at first in cc
    go (Some x) found first = value_accepted old m p is text (entry_value old m p is x found text (rw found at first))

-- the number of the limit
pub limit_read : {E : Type 0} (o : Option Text) (text : Text) (r : Result ℕ E) (limit : Option ℕ) → o ≡ Some text
    → IsLimitText text
    → ParsesUnsigned 64 10 text r → limit ≡ result_ok r → IsLimit o limit
limit_read o text r limit is taken h l = grind arith

pub limit_of : {E : Type 0} (made : Result Command E) (m : ArgMatches) → IfOk made (λ old. app_of old ≡ command)
    → MatchResult made (λ old. IsParsedFrom old m) (λ e. ⊥) → HasLimit (rows_in m)
limit_of (Ok old) m is p = limit_passes old m p is
limit_of (Err e) m is p = absurd p
