use Rattle.std.specs.Prelude.{refl}
use Rattle.solve_top.specs.Changes.{disk_change, source_change}
use Rattle.solve_top.specs.Models.{IsOwnProblem}
use Rattle.solve_top.proofs.Opened.{kept_untouched}
use Rattle.solve_top.proofs.Performing.{alone_shown, drills, left_alone, resumes, shown, solves}
use Rattle.solve_top.proofs.beginning.begin.Goals as goal

pub solve-requires-clause-solves : goal.solve-requires-clause-solves
solve-requires-clause-solves g c = solves c.args.request.now _ _ c.in-Solve.is

pub resume-requires-clause-resumes : goal.resume-requires-clause-resumes
resume-requires-clause-resumes g c = resumes c.args.request.now _ c.in-Resume.is

pub drill-requires-clause-drills : goal.drill-requires-clause-drills
drill-requires-clause-drills g c = drills c.args.request.now c.in-Drill.seed _ c.in-Drill.is

pub returns-in-Resume : goal.returns-in-Resume
returns-in-Resume g c = c.resume.ensures _ refl

pub returns-in-Show : goal.returns-in-Show
returns-in-Show g c = (
  refl,
  λ cert nothing unwritten.
      let m = source_change g.S.Source.tells g.S.Source.left g.S.Source.faults c.args.model.now c.args.model.now in
      let d = disk_change g.D.Disk.tells g.D.Disk.past g.D.Disk.now g.D.Disk.count c.args.disk c.show-status.new.disk in
      let untouched = left_alone d c.show-status.result c.show-status.ensures in
      record {
        alone = alone_shown c.args.request.now m d c.in-Show.is untouched;
        outcome = shown c.args.request.now c.in-Show.is m d cert c.show-status.result c.show-status.ensures refl nothing unwritten;
        journal = λ told rests. kept_untouched g.D.Disk.tells g.D.Disk.past g.D.Disk.now g.D.Disk.count c.args.disk c.show-status.new.disk untouched rests (IsOwnProblem c.args.request.now m d);
      },
)

pub returns-in-Drill : goal.returns-in-Drill
returns-in-Drill g c = c.drill.ensures _ refl
