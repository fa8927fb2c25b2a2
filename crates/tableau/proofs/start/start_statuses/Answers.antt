use Rattle.std.proofs.Common.{◌≡◌, ◌+◌, ◌++◌, ◌∷◌, [], ap, sym, ◌∙◌, append_assoc, arith, length, map, replicate}
use Rattle.std.proofs.lemmas.List.{append-nil, length-append, length-map, length-replicate, replicate_more}
use Rattle.tableau.specs.Start.{start_status}
use Rattle.tableau.specs.declared.status.BasisStatus.TheVariants.{Basic}
use Rattle.tableau.proofs.start.start_statuses.Goals as goal

pub loop-init : goal.loop-init
loop-init c = c.in_ok-statuses.ensures ∙ sym (append-nil (map start_status c.args.costs.now))

pub loop-preserved : goal.loop-preserved
loop-preserved c =
    let columns = map start_status c.args.costs.now in
    c.in_ok-push.ensures.items ∙ ap (λ ss. ss ++ Basic ∷ []) c.loop.invariant ∙ append_assoc columns (replicate c.loop.counter Basic) (Basic ∷ []) ∙ ap (λ ss. columns ++ ss) (replicate_more c.loop.counter Basic)

pub returns : goal.returns
returns c =
    let columns = map start_status c.args.costs.now in
    let all : c.loop.counter ≡ c.args.rows = omega arith in
    let value : c.loop.statuses.items ≡ columns ++ replicate c.args.rows Basic = c.loop.invariant ∙ ap (λ n. columns ++ replicate n Basic) all in
    record {
      value = value;
      count = ap length value ∙ length-append columns (replicate c.args.rows Basic) ∙ (λ j. length-map c.args.costs.now start_status j + length-replicate c.args.rows Basic j);
    }
