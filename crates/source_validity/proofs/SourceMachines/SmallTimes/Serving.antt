-- Requests for units are served by the times at which they could start.
use Rattle.std.proofs.Common.{subst}
use Rattle.unit_binding.proofs.Serving.{ServesByTime, served_by_time}
use Rattle.report_rows.specs.Timing.{request_order}
use Rattle.report_rows.proofs.ServingOrder.{serving_is}

pub by_time : ServesByTime request_order
by_time = subst ServesByTime serving_is served_by_time
