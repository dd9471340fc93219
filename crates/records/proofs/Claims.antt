-- The theorems of reading and printing.
use Rattle.std.proofs.Common.{ap, ◌∙◌}
use Rattle.records.specs.Claims.{ReadingStands}
use Rattle.records.specs.Reading.{read_decimal_line, read_line, read_record}
use Rattle.records.proofs.Roundtrip.{read_line_shown, line_shown, read_decimal, decimal_read, read_shown, record_shown}
use Rattle.records.proofs.TextCases.{text_splits, split_unique}

pub reading_stands : ReadingStands
reading_stands =
    record {
      lines = λ k s v rest. record { read = line_shown k s v rest; printed = λ low e. ap (read_line k) e ∙ read_line_shown k v rest low };
      decimals = λ key most high some fits small s v rest.
          record { read = decimal_read key most high some fits small s v rest; printed = λ low e. ap (read_decimal_line key most high) e ∙ read_decimal key most high some fits small v rest low };
      records = λ s x rest. record { read = record_shown s x rest; printed = λ i e. ap read_record e ∙ read_shown x i rest };
      texts = λ text. record { splits = text_splits text; unique = λ fs rest h. split_unique fs text rest h };
    }
