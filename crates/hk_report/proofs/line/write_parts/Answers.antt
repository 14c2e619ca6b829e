use Rattle.std.proofs.Common.{◌≡◌, ◌++◌, List, refl}
use Rattle.hk_base.specs.declared.plain.Head.{Head}
use Rattle.hk_base.specs.declared.plain.Match.{Match}
use Rattle.hk_spec_lines.specs.Lines.{head_text, line, list_text, NEWLINE}
use Rattle.hk_base.proofs.Writing.{same_text, torn_then, whole_then}
use Rattle.hk_report.proofs.line.write_parts.Goals as goal

parts : (head : Head) (list : List Match) → head_text head ++ list_text list ++ NEWLINE ≡ line head list
unfolding line
parts head list = refl

-- a front of the head
pub returns-in-Err : goal.returns-in-Err
returns-in-Err g c = same_text (parts c.args.head.now c.args.matches.now) (torn_then NEWLINE (torn_then (list_text c.args.matches.now) c.in-Err.ensures))

-- the head, and a front of the list
pub returns-in-Err-write_list : goal.returns-in-Err-write_list
returns-in-Err-write_list g c = same_text (parts c.args.head.now c.args.matches.now) (torn_then NEWLINE (whole_then c.in-Ok.ensures c.in-Err-write_list.ensures))

-- the head, the list, and the newline
pub returns : goal.returns
returns g c = same_text (parts c.args.head.now c.args.matches.now) (whole_then (whole_then c.in-Ok.ensures c.in-Ok-write_list.ensures) c.write_pieces.ensures)
