use Rattle.isp_course.proofs.CourseLaws.{course_kept}
use Rattle.isp_course.proofs.course.law_course_kept.Goals as goal

pub returns : goal.returns
returns c = course_kept
