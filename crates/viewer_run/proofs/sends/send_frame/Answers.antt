use Rattle.std.proofs.Common.{refl}
use Rattle.edge_io.specs.Outside.{output_of}
use Rattle.serve_rules.specs.declared.ends.ConnEnd.TheVariants.{NotStored, OutOfMemory}
use Rattle.viewer_run.proofs.OneTake.{unsent}
use Rattle.viewer_run.proofs.sends.send_frame.Goals as goal

pub returns-in-Failed : goal.returns-in-Failed
returns-in-Failed g c = unsent _ _ _ _ _ (output_of g.K.Sink c.args.output.now) (output_of g.K.Sink c.keep.new.self) NotStored refl tt c.keep.ensures.told (λ is. c.in-Failed.ensures.cause)

pub returns-in-OutOfMemory : goal.returns-in-OutOfMemory
returns-in-OutOfMemory g c = unsent _ _ _ _ _ (output_of g.K.Sink c.args.output.now) (output_of g.K.Sink c.keep.new.self) OutOfMemory refl tt c.keep.ensures.told (λ is. absurd is)
