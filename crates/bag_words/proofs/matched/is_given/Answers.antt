use Rattle.bag_words.proofs.Common.{◌∙◌, [], ap, bytes_eq, codes, unwrap_or, one_text-rows, found_of, one_text}
use Rattle.bag_words.proofs.Reading.{flag_read}
use Rattle.bag_words.proofs.matched.is_given.Goals as goal

pub returns : goal.returns
returns c =
    let found = found_of c.args.matches.now in
    let id = c.args.id.now in
    c.unwrap_or.ensures
    ∙ flag_read _ (one_text found id) c.get_one.result c.get_one.ensures.none c.get_one.ensures.value
    ∙ ap (λ o. bytes_eq (unwrap_or o []) (codes "true")) (one_text-rows found id)
