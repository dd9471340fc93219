-- Each exit of a `?` tells the fault of the line that could not be read; the end tells the frame.
use Rattle.std.proofs.Common.{refl}
use Rattle.parsing.proofs.Exits.{refused, reached_1, reached_2, reached_3, reached_4, reached_5, reached_6, reached_7, all_read}
use Rattle.parsing.specs.declared.read_record.Lines.{Lines}
use Rattle.parsing.proofs.read_record.read_record.Goals as goal

pub returns-in_err-value : goal.returns-in_err-value
returns-in_err-value c =
    let l₀ : Lines = record { text = c.args.text; at = c.args.at; place = record { «record» = c.args.record; start = c.args.at } } in
    let p = refused {l₀ = l₀} c.from_residual.result reached_1 refl c.in_err-value.ensures c.from_residual.ensures.1 in
    record { reads = p.0; means = p.1 }

pub returns-in_err-value-2 : goal.returns-in_err-value-2
returns-in_err-value-2 c =
    let p = refused c.from_residual-in_err-value-2.result (reached_2 c.in_ok-value.ensures) refl c.in_err-value-2.ensures c.from_residual-in_err-value-2.ensures.1 in
    record { reads = p.0; means = p.1 }

pub returns-in_err-value-3 : goal.returns-in_err-value-3
returns-in_err-value-3 c =
    let p = refused c.from_residual-in_err-value-3.result (reached_3 c.in_ok-value.ensures c.in_ok-value-2.ensures) refl c.in_err-value-3.ensures c.from_residual-in_err-value-3.ensures.1 in
    record { reads = p.0; means = p.1 }

pub returns-in_err-value-4 : goal.returns-in_err-value-4
returns-in_err-value-4 c =
    let p = refused c.from_residual-in_err-value-4.result (reached_4 c.in_ok-value.ensures c.in_ok-value-2.ensures c.in_ok-value-3.ensures) refl c.in_err-value-4.ensures c.from_residual-in_err-value-4.ensures.1 in
    record { reads = p.0; means = p.1 }

pub returns-in_err-value-5 : goal.returns-in_err-value-5
returns-in_err-value-5 c =
    let p = refused c.from_residual-in_err-value-5.result (reached_5 c.in_ok-value.ensures c.in_ok-value-2.ensures c.in_ok-value-3.ensures c.in_ok-value-4.ensures) refl c.in_err-value-5.ensures c.from_residual-in_err-value-5.ensures.1 in
    record { reads = p.0; means = p.1 }

pub returns-in_err-value-6 : goal.returns-in_err-value-6
returns-in_err-value-6 c =
    let p = refused c.from_residual-in_err-value-6.result (reached_6 c.in_ok-value.ensures c.in_ok-value-2.ensures c.in_ok-value-3.ensures c.in_ok-value-4.ensures c.in_ok-value-5.ensures) refl c.in_err-value-6.ensures c.from_residual-in_err-value-6.ensures.1 in
    record { reads = p.0; means = p.1 }

pub returns-in_err-value-7 : goal.returns-in_err-value-7
returns-in_err-value-7 c =
    let p = refused c.from_residual-in_err-value-7.result (reached_7 c.in_ok-value.ensures c.in_ok-value-2.ensures c.in_ok-value-3.ensures c.in_ok-value-4.ensures c.in_ok-value-5.ensures c.in_ok-value-6.ensures) refl c.in_err-value-7.ensures c.from_residual-in_err-value-7.ensures.1 in
    record { reads = p.0; means = p.1 }

pub returns : goal.returns
returns c =
    let p = all_read c.in_ok-value.ensures c.in_ok-value-2.ensures c.in_ok-value-3.ensures c.in_ok-value-4.ensures c.in_ok-value-5.ensures c.in_ok-value-6.ensures c.in_ok-value-7.ensures in
    record { reads = p.0; means = p.1 }
