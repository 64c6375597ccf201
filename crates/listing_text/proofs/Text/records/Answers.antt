-- Each turn writes the next line.
use Rattle.std.proofs.Common.{◌≡◌, ◌+◌, ◌-◌, sym, ap, ◌∙◌, arith}
use Rattle.rules.specs.Records.{record_count}
use Rattle.rules.specs.Listing.{record_line}
use Rattle.listing_text.specs.Text.{table_lines}
use Rattle.listing_text.proofs.RecordsLaws.{remaining-as, remaining-start, remaining-room, remaining-step}
use Rattle.listing_text.proofs.RecordsLaws.{remaining-none, lines_from, lines-all, lines_none, lines_next}
use Rattle.listing_text.proofs.Text.records.Goals as goal

pub loop-n-init : goal.loop-n-init
loop-n-init c =
    let t = c.args.table.now in
    let all : record_count t + 1 - 1 ≡ record_count t = omega arith in
    remaining-as (sym (ap (lines_from t 0) all ∙ lines-all t)) (remaining-start c.args.self.now (table_lines t) c.requires)

pub line-requires : goal.line-requires
line-requires c =
    let t = c.args.table.now in
    let l = c.loop-n in
    let next = lines_next t l.n (record_count t) (omega arith) (omega arith) c.«record».ensures in
    remaining-room c.args.self.now (table_lines t) c.requires (record_line l.n c.«record».result)
    (lines_from t (l.n + 1 - 1) (record_count t + 1 - (l.n + 1))) (remaining-as next l.invariant)

pub loop-n-preserved : goal.loop-n-preserved
loop-n-preserved c =
    let t = c.args.table.now in
    let l = c.loop-n in
    let next = lines_next t l.n (record_count t) (omega arith) (omega arith) c.«record».ensures in
    remaining-step c.args.self.now (table_lines t) c.requires (record_line l.n c.«record».result)
    (lines_from t (l.n + 1 - 1) (record_count t + 1 - (l.n + 1))) (remaining-as next l.invariant) c.line.ensures

pub returns : goal.returns
returns c =
    let t = c.args.table.now in
    let n = c.loop-n.n in
    let none : record_count t + 1 - n ≡ 0 = omega arith in
    remaining-none c.args.self.now (table_lines t) c.requires
    (remaining-as (ap (lines_from t (n - 1)) none ∙ lines_none t (n - 1)) c.loop-n.invariant)

pub returns-2 : goal.returns-2
returns-2 c =
    let t = c.args.table.now in
    let l = c.loop-n in
    let none : record_count t + 1 - (l.n + 1) ≡ 0 = omega arith in
    let next = lines_next t l.n (record_count t) (omega arith) (omega arith) c.«record».ensures in
    let rest = lines_from t (l.n + 1 - 1) (record_count t + 1 - (l.n + 1)) in
    remaining-none c.args.self.now (table_lines t) c.requires
    (remaining-as (ap (lines_from t (l.n + 1 - 1)) none ∙ lines_none t (l.n + 1 - 1))
    (remaining-step c.args.self.now (table_lines t) c.requires (record_line l.n c.«record».result) rest
    (remaining-as next l.invariant) c.line.ensures))
