use Rattle.std.proofs.Common.{◌≡◌, sym, subst}
use Rattle.std.proofs.Common.{to_z, of_z, w64}
use Rattle.std.proofs.lemmas.Int.{to_z-of_z}
use Rattle.std.specs.Prelude.{◌<◌, ℤ, ◌≤ℤ◌, ◌<ℤ◌, List, true, slice_get}
use Rattle.problem_box.specs.declared.span.Span.{Span}
use Rattle.node_tree.specs.Paths.{box_at}
use Rattle.event_core.specs.Rooms.{Standing}
use Rattle.event_core.specs.States.{box_of}
use Rattle.event_core.specs.Splits.{has_both}
use Rattle.event_core.specs.Lemmas.Boxes.{same_box, both_within, both_tells}
use Rattle.event_core.proofs.parts.Parts.split.Goals as goal

pub split-requires-clause-column_there : goal.split-requires-clause-column_there
split-requires-clause-column_there c =
    let t = c.self.inside.tree in
    let here = subst (λ (v : Standing). has_both (slice_get (box_of v.state c.args.node) c.args.column) c.args.bound ≡ true) (sym c.self.view_is) c.requires.inside in
    let inside : has_both (slice_get (box_at t c.args.node) c.args.column) c.args.bound ≡ true =
    subst (λ (ss : List Span). has_both (slice_get ss c.args.column) c.args.bound ≡ true) (same_box t c.self.inside.problem.spans c.args.node c.self.invariant.0) here
    in
    subst (λ n. c.args.column < n) (c.boxes_are_cut.ensures.columns c.args.node) (both_within _ c.args.column c.args.bound inside)

pub split-requires-clause-inside : goal.split-requires-clause-inside
split-requires-clause-inside c =
    let t = c.self.inside.tree in
    let here = subst (λ (v : Standing). has_both (slice_get (box_of v.state c.args.node) c.args.column) c.args.bound ≡ true) (sym c.self.view_is) c.requires.inside in
    let inside : has_both (slice_get (box_at t c.args.node) c.args.column) c.args.bound ≡ true =
    subst (λ (ss : List Span). has_both (slice_get ss c.args.column) c.args.bound ≡ true) (same_box t c.self.inside.problem.spans c.args.node c.self.invariant.0) here
    in
    let bound : to_z w64 (of_z w64 c.args.bound) ≡ c.args.bound = to_z-of_z w64 c.args.bound c.ranges.bound in
    λ s e. let h = both_tells _ c.args.bound inside s e in subst (λ (z : ℤ). (s.lo ≤ℤ z) × (z <ℤ s.hi)) (sym bound) h
