use Rattle.std.proofs.Common.{◌≡◌, Err, rules}
use Rattle.toml.specs.View.{table_view}
use Rattle.sal_plan.specs.Rules.{or_empty, locators_of, authorities_of, words_of}
use Rattle.sal_plan.specs.Plans.{plan_of}
use Rattle.sal_plan.proofs.Answering.{IsBegun, theatres_read, services_read, theatres_refused, services_refused, shared, words_refused, plan_read}
use Rattle.sal_plan.proofs.reading.table_plan.Goals as goal

pub returns-in_err-theatres : goal.returns-in_err-theatres
returns-in_err-theatres c =
    let e : c.from_residual-in_err-theatres.result ≡ Err c.in_err-theatres.field-0.0 = search rules in
    theatres_refused (table_view c.args.table.now) c.in_ok-theatre_texts.field-0 (or_empty (locators_of c.in_ok-theatre_texts.field-0)) c.in_err-theatres.field-0.0 c.from_residual-in_err-theatres.result
    (plan_of (table_view c.args.table.now)) c.in_ok-theatre_texts.ensures c.in_err-theatres.ensures e

pub returns-in_err-names : goal.returns-in_err-names
returns-in_err-names c =
    let e : c.from_residual-in_err-names.result ≡ Err c.in_err-names.field-0.0 = search rules in
    let theatres = theatres_read (table_view c.args.table.now) c.in_ok-theatre_texts.field-0 c.in_ok-theatres.theatres c.in_ok-theatre_texts.ensures c.in_ok-theatres.ensures in
    services_refused (table_view c.args.table.now) c.in_ok-service_texts.field-0 (or_empty (authorities_of c.in_ok-service_texts.field-0)) c.in_err-names.field-0.0 c.from_residual-in_err-names.result
    (plan_of (table_view c.args.table.now)) theatres.0 c.in_ok-service_texts.ensures c.in_err-names.ensures e

pub returns-then-branch : goal.returns-then-branch
returns-then-branch c =
    let begun : IsBegun (table_view c.args.table.now) c.in_ok-theatres.theatres c.in_ok-names.names = record {
      first = theatres_read (table_view c.args.table.now) c.in_ok-theatre_texts.field-0 c.in_ok-theatres.theatres c.in_ok-theatre_texts.ensures c.in_ok-theatres.ensures;
      second = services_read (table_view c.args.table.now) c.in_ok-service_texts.field-0 c.in_ok-names.names c.in_ok-service_texts.ensures c.in_ok-names.ensures;
    } in
    shared (table_view c.args.table.now) c.in_ok-theatres.theatres c.in_ok-names.names c.in_ok-share_an_address.field-0 begun c.in_ok-share_an_address.ensures c.if-branch.true

pub returns-in_err-words : goal.returns-in_err-words
returns-in_err-words c =
    let e : c.from_residual-in_err-words.result ≡ Err c.in_err-words.field-0.0 = search rules in
    let begun : IsBegun (table_view c.args.table.now) c.in_ok-theatres.theatres c.in_ok-names.names = record {
      first = theatres_read (table_view c.args.table.now) c.in_ok-theatre_texts.field-0 c.in_ok-theatres.theatres c.in_ok-theatre_texts.ensures c.in_ok-theatres.ensures;
      second = services_read (table_view c.args.table.now) c.in_ok-service_texts.field-0 c.in_ok-names.names c.in_ok-service_texts.ensures c.in_ok-names.ensures;
    } in
    words_refused (table_view c.args.table.now) c.in_ok-theatres.theatres c.in_ok-names.names c.in_ok-share_an_address.field-0 c.in_ok-word_texts.field-0 (words_of c.in_ok-word_texts.field-0)
    c.in_err-words.field-0.0 c.from_residual-in_err-words.result (plan_of (table_view c.args.table.now)) begun c.in_ok-share_an_address.ensures c.if-branch.false c.in_ok-word_texts.ensures c.in_err-words.ensures e

pub returns : goal.returns
returns c =
    let begun : IsBegun (table_view c.args.table.now) c.in_ok-theatres.theatres c.in_ok-names.names = record {
      first = theatres_read (table_view c.args.table.now) c.in_ok-theatre_texts.field-0 c.in_ok-theatres.theatres c.in_ok-theatre_texts.ensures c.in_ok-theatres.ensures;
      second = services_read (table_view c.args.table.now) c.in_ok-service_texts.field-0 c.in_ok-names.names c.in_ok-service_texts.ensures c.in_ok-names.ensures;
    } in
    plan_read (table_view c.args.table.now) c.in_ok-theatres.theatres c.in_ok-names.names c.in_ok-share_an_address.field-0 c.in_ok-word_texts.field-0 c.in_ok-words.words
    begun c.in_ok-share_an_address.ensures c.if-branch.false c.in_ok-word_texts.ensures c.in_ok-words.ensures
