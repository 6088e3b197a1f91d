-- What is read of the matches.
use Rattle.bag_words.proofs.Common.{arith, ◌≡◌, ◌≢◌, Bool, true, false, List, [], Option, Some, None, refl, sym, ap}
use Rattle.bag_words.proofs.Common.{bytes_eq, codes, unwrap_or, map, option_map, ParsesBool, Bor, bytes_eq-Decides}
use Rattle.bag_words.proofs.Common.{ReadsOne, Text, matched_of, raw_values, rows_of, raw_values-rows, values}
use Rattle.clap.specs.declared.parser.matches.Found.{Found}

is_not_true : (t : Text) → t ≢ codes "true" → (b : Bool) → bytes_eq t (codes "true") ≡ b → b ≡ false
is_not_true t other true e = absurd (other ((bytes_eq-Decides t (codes "true")).0 e))
is_not_true t other false e = refl

-- a flag's text read as a truth value
pub flag_read : (E : Type 0) (o : Option Text) (r : Option Bool) → (o ≡ None → r ≡ None)
    → ((t : Text) → o ≡ Some t → ReadsOne {T = Bool} {E = E} ParsesBool t r)
    → unwrap_or r false ≡ bytes_eq (unwrap_or o []) (codes "true")
flag_read E None r none some = ap (λ x. unwrap_or x false) (none refl)
flag_read E (Some t) (Some true) none some = sym (ap (λ x. bytes_eq x (codes "true")) (some t refl))
flag_read E (Some t) (Some false) none some = sym (ap (λ x. bytes_eq x (codes "true")) (some t refl))
flag_read E (Some t) None none some = sym (is_not_true t (some t refl).1.0 _ refl)

-- the values of an argument, as they are read
pub values_of : (found : Found) (id : Text) (r x : Option (Bor (List (Bor Text))))
    → option_map (λ s. map (λ v. v.now) s.now) r ≡ option_map raw_values (matched_of found id) → r ≡ x
    → values (rows_of found) id ≡ unwrap_or (option_map (λ s. map (λ v. v.now) s.now) x) []
values_of found id r x read is = grind (arith, raw_values-rows)
