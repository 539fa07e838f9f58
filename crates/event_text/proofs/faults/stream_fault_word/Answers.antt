use Rattle.std.proofs.Common.{◌≡◌, sym, ap, inl, inr, arith}
use Rattle.std.proofs.lemmas.Bool.{cases_lt}
use Rattle.event_text.specs.Words.{name_at}
use Rattle.event_text.specs.Faults.{stream_faults}
use Rattle.event_text.proofs.JoinedWords.{name_at-past}
use Rattle.event_text.proofs.faults.stream_fault_word.Goals as goal

pub returns-in_default : goal.returns-in_default
returns-in_default c =
    let arm = c.in_default in
    elim (cases_lt 18 c.args.number) [
      | inl past ↦ sym (name_at-past stream_faults c.args.number past)
      | inr within ↦ (let none : c.args.number ≡ 0 = omega arith in sym (ap (λ n. name_at stream_faults n) none))
    ]
