use Rattle.std.proofs.Common.{◌≡◌, ◌+◌, ◌-◌, ◌*◌, ◌≤◌, ◌++◌, length, drop, vec_items, vec_len, vec_capacity}
use Rattle.std.specs.List.{flat_map}
use Rattle.sheets.specs.Bytes.{line_bytes}
use Rattle.sheets.proofs.writing.append_lines.Given as goal

-- what is written, followed by what is left, is the whole, and there is room for what is left
abbrev pub invariant-loop-line : goal.invariant-loop-line
invariant-loop-line l =
    (vec_items l.out ++ flat_map line_bytes (drop l.line-index l.lines) ≡ vec_items l.initial.out ++ flat_map line_bytes l.lines)
    × (vec_len l.out + 9 * (length l.lines - l.line-index) ≤ vec_capacity l.out)
