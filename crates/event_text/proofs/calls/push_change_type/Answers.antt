use Rattle.std.proofs.Common.{◌++◌, codes, string_bytes}
use Rattle.std.specs.Fmt.{decimal}
use Rattle.event_text.specs.Calls.{type_text}
use Rattle.event_text.proofs.JoinedWords.{appended_behind}
use Rattle.event_text.proofs.calls.push_change_type.Goals as goal

pub returns : goal.returns
returns c =
    appended_behind (string_bytes c.args.text.now) (string_bytes c.write.new.self) (string_bytes c.push_type.new.text)
    (codes "changetype " ++ decimal c.args.k) (type_text c.args.kind.now) c.push_type.result c.in_ok-write.ensures.bytes c.push_type.ensures
