-- Each arm has the word of its number, by computation.
use Rattle.std.proofs.Common.{sym, ap}
use Rattle.squeezed.proofs.Words.{pair-word}
use Rattle.squeezed.proofs.pair_words.pair_word.Goals as goal

pub returns-in-0 : goal.returns-in-0
unfolding pair-word
returns-in-0 c = sym (ap pair-word c.in-0.is)

pub returns-in-1 : goal.returns-in-1
unfolding pair-word
returns-in-1 c = sym (ap pair-word c.in-1.is)

pub returns-in-2 : goal.returns-in-2
unfolding pair-word
returns-in-2 c = sym (ap pair-word c.in-2.is)

pub returns-in-3 : goal.returns-in-3
unfolding pair-word
returns-in-3 c = sym (ap pair-word c.in-3.is)

pub returns-in-4 : goal.returns-in-4
unfolding pair-word
returns-in-4 c = sym (ap pair-word c.in-4.is)

pub returns-in-5 : goal.returns-in-5
unfolding pair-word
returns-in-5 c = sym (ap pair-word c.in-5.is)

pub returns-in-6 : goal.returns-in-6
unfolding pair-word
returns-in-6 c = sym (ap pair-word c.in-6.is)

pub returns-in-7 : goal.returns-in-7
unfolding pair-word
returns-in-7 c = sym (ap pair-word c.in-7.is)

pub returns-in-8 : goal.returns-in-8
unfolding pair-word
returns-in-8 c = sym (ap pair-word c.in-8.is)

pub returns-in-9 : goal.returns-in-9
unfolding pair-word
returns-in-9 c = sym (ap pair-word c.in-9.is)

pub returns-in-10 : goal.returns-in-10
unfolding pair-word
returns-in-10 c = sym (ap pair-word c.in-10.is)

pub returns-in-11 : goal.returns-in-11
unfolding pair-word
returns-in-11 c = sym (ap pair-word c.in-11.is)

pub returns-in-12 : goal.returns-in-12
unfolding pair-word
returns-in-12 c = sym (ap pair-word c.in-12.is)

pub returns-in-13 : goal.returns-in-13
unfolding pair-word
returns-in-13 c = sym (ap pair-word c.in-13.is)

pub returns-in-14 : goal.returns-in-14
unfolding pair-word
returns-in-14 c = sym (ap pair-word c.in-14.is)

pub returns-in-15 : goal.returns-in-15
unfolding pair-word
returns-in-15 c = sym (ap pair-word c.in-15.is)

pub returns-in-16 : goal.returns-in-16
unfolding pair-word
returns-in-16 c = sym (ap pair-word c.in-16.is)

pub returns-in-17 : goal.returns-in-17
unfolding pair-word
returns-in-17 c = sym (ap pair-word c.in-17.is)

pub returns-in-18 : goal.returns-in-18
unfolding pair-word
returns-in-18 c = sym (ap pair-word c.in-18.is)

pub returns-in-19 : goal.returns-in-19
unfolding pair-word
returns-in-19 c = sym (ap pair-word c.in-19.is)

pub returns-in-20 : goal.returns-in-20
unfolding pair-word
returns-in-20 c = sym (ap pair-word c.in-20.is)

pub returns-in-21 : goal.returns-in-21
unfolding pair-word
returns-in-21 c = sym (ap pair-word c.in-21.is)

pub returns-in-22 : goal.returns-in-22
unfolding pair-word
returns-in-22 c = sym (ap pair-word c.in-22.is)

pub returns-in-23 : goal.returns-in-23
unfolding pair-word
returns-in-23 c = sym (ap pair-word c.in-23.is)

pub returns-in-24 : goal.returns-in-24
unfolding pair-word
returns-in-24 c = sym (ap pair-word c.in-24.is)

pub returns-in-25 : goal.returns-in-25
unfolding pair-word
returns-in-25 c = sym (ap pair-word c.in-25.is)

pub returns-in-26 : goal.returns-in-26
unfolding pair-word
returns-in-26 c = sym (ap pair-word c.in-26.is)

pub returns-in-27 : goal.returns-in-27
unfolding pair-word
returns-in-27 c = sym (ap pair-word c.in-27.is)

pub returns-in-28 : goal.returns-in-28
unfolding pair-word
returns-in-28 c = sym (ap pair-word c.in-28.is)

pub returns-in-29 : goal.returns-in-29
unfolding pair-word
returns-in-29 c = sym (ap pair-word c.in-29.is)

pub returns-in-30 : goal.returns-in-30
unfolding pair-word
returns-in-30 c = sym (ap pair-word c.in-30.is)

pub returns-in-31 : goal.returns-in-31
unfolding pair-word
returns-in-31 c = sym (ap pair-word c.in-31.is)

pub returns-in-32 : goal.returns-in-32
unfolding pair-word
returns-in-32 c = sym (ap pair-word c.in-32.is)

pub returns-in-33 : goal.returns-in-33
unfolding pair-word
returns-in-33 c = sym (ap pair-word c.in-33.is)

pub returns-in-34 : goal.returns-in-34
unfolding pair-word
returns-in-34 c = sym (ap pair-word c.in-34.is)

pub returns-in-35 : goal.returns-in-35
unfolding pair-word
returns-in-35 c = sym (ap pair-word c.in-35.is)

pub returns-in-36 : goal.returns-in-36
unfolding pair-word
returns-in-36 c = sym (ap pair-word c.in-36.is)

pub returns-in-37 : goal.returns-in-37
unfolding pair-word
returns-in-37 c = sym (ap pair-word c.in-37.is)

pub returns-in-38 : goal.returns-in-38
unfolding pair-word
returns-in-38 c = sym (ap pair-word c.in-38.is)

pub returns-in-39 : goal.returns-in-39
unfolding pair-word
returns-in-39 c = sym (ap pair-word c.in-39.is)

pub returns-in-40 : goal.returns-in-40
unfolding pair-word
returns-in-40 c = sym (ap pair-word c.in-40.is)

pub returns-in-41 : goal.returns-in-41
unfolding pair-word
returns-in-41 c = sym (ap pair-word c.in-41.is)

pub returns-in-42 : goal.returns-in-42
unfolding pair-word
returns-in-42 c = sym (ap pair-word c.in-42.is)

pub returns-in-43 : goal.returns-in-43
unfolding pair-word
returns-in-43 c = sym (ap pair-word c.in-43.is)

pub returns-in-44 : goal.returns-in-44
unfolding pair-word
returns-in-44 c = sym (ap pair-word c.in-44.is)

pub returns-in-45 : goal.returns-in-45
unfolding pair-word
returns-in-45 c = sym (ap pair-word c.in-45.is)

pub returns-in-46 : goal.returns-in-46
unfolding pair-word
returns-in-46 c = sym (ap pair-word c.in-46.is)

pub returns-in-47 : goal.returns-in-47
unfolding pair-word
returns-in-47 c = sym (ap pair-word c.in-47.is)

pub returns-in-48 : goal.returns-in-48
unfolding pair-word
returns-in-48 c = sym (ap pair-word c.in-48.is)

pub returns-in-49 : goal.returns-in-49
unfolding pair-word
returns-in-49 c = sym (ap pair-word c.in-49.is)

pub returns-in-50 : goal.returns-in-50
unfolding pair-word
returns-in-50 c = sym (ap pair-word c.in-50.is)

pub returns-in-51 : goal.returns-in-51
unfolding pair-word
returns-in-51 c = sym (ap pair-word c.in-51.is)

pub returns-in-52 : goal.returns-in-52
unfolding pair-word
returns-in-52 c = sym (ap pair-word c.in-52.is)

pub returns-in-53 : goal.returns-in-53
unfolding pair-word
returns-in-53 c = sym (ap pair-word c.in-53.is)

pub returns-in-54 : goal.returns-in-54
unfolding pair-word
returns-in-54 c = sym (ap pair-word c.in-54.is)

pub returns-in-55 : goal.returns-in-55
unfolding pair-word
returns-in-55 c = sym (ap pair-word c.in-55.is)

pub returns-in-56 : goal.returns-in-56
unfolding pair-word
returns-in-56 c = sym (ap pair-word c.in-56.is)

pub returns-in-57 : goal.returns-in-57
unfolding pair-word
returns-in-57 c = sym (ap pair-word c.in-57.is)

pub returns-in-58 : goal.returns-in-58
unfolding pair-word
returns-in-58 c = sym (ap pair-word c.in-58.is)

pub returns-in-59 : goal.returns-in-59
unfolding pair-word
returns-in-59 c = sym (ap pair-word c.in-59.is)

pub returns-in-60 : goal.returns-in-60
unfolding pair-word
returns-in-60 c = sym (ap pair-word c.in-60.is)

pub returns-in-61 : goal.returns-in-61
unfolding pair-word
returns-in-61 c = sym (ap pair-word c.in-61.is)

pub returns-in-62 : goal.returns-in-62
unfolding pair-word
returns-in-62 c = sym (ap pair-word c.in-62.is)

pub returns-in-63 : goal.returns-in-63
unfolding pair-word
returns-in-63 c = sym (ap pair-word c.in-63.is)

pub returns-in-64 : goal.returns-in-64
unfolding pair-word
returns-in-64 c = sym (ap pair-word c.in-64.is)

pub returns-in-65 : goal.returns-in-65
unfolding pair-word
returns-in-65 c = sym (ap pair-word c.in-65.is)

pub returns-in-66 : goal.returns-in-66
unfolding pair-word
returns-in-66 c = sym (ap pair-word c.in-66.is)

pub returns-in-67 : goal.returns-in-67
unfolding pair-word
returns-in-67 c = sym (ap pair-word c.in-67.is)

pub returns-in-68 : goal.returns-in-68
unfolding pair-word
returns-in-68 c = sym (ap pair-word c.in-68.is)

pub returns-in-69 : goal.returns-in-69
unfolding pair-word
returns-in-69 c = sym (ap pair-word c.in-69.is)

pub returns-in-70 : goal.returns-in-70
unfolding pair-word
returns-in-70 c = sym (ap pair-word c.in-70.is)

pub returns-in-71 : goal.returns-in-71
unfolding pair-word
returns-in-71 c = sym (ap pair-word c.in-71.is)

pub returns-in-72 : goal.returns-in-72
unfolding pair-word
returns-in-72 c = sym (ap pair-word c.in-72.is)

pub returns-in-73 : goal.returns-in-73
unfolding pair-word
returns-in-73 c = sym (ap pair-word c.in-73.is)

pub returns-in-74 : goal.returns-in-74
unfolding pair-word
returns-in-74 c = sym (ap pair-word c.in-74.is)

pub returns-in-75 : goal.returns-in-75
unfolding pair-word
returns-in-75 c = sym (ap pair-word c.in-75.is)

pub returns-in-76 : goal.returns-in-76
unfolding pair-word
returns-in-76 c = sym (ap pair-word c.in-76.is)

pub returns-in-77 : goal.returns-in-77
unfolding pair-word
returns-in-77 c = sym (ap pair-word c.in-77.is)

pub returns-in-78 : goal.returns-in-78
unfolding pair-word
returns-in-78 c = sym (ap pair-word c.in-78.is)

pub returns-in-79 : goal.returns-in-79
unfolding pair-word
returns-in-79 c = sym (ap pair-word c.in-79.is)

pub returns-in-80 : goal.returns-in-80
unfolding pair-word
returns-in-80 c = sym (ap pair-word c.in-80.is)

pub returns-in-81 : goal.returns-in-81
unfolding pair-word
returns-in-81 c = sym (ap pair-word c.in-81.is)

pub returns-in-82 : goal.returns-in-82
unfolding pair-word
returns-in-82 c = sym (ap pair-word c.in-82.is)

pub returns-in-83 : goal.returns-in-83
unfolding pair-word
returns-in-83 c = sym (ap pair-word c.in-83.is)

pub returns-in-84 : goal.returns-in-84
unfolding pair-word
returns-in-84 c = sym (ap pair-word c.in-84.is)

pub returns-in-85 : goal.returns-in-85
unfolding pair-word
returns-in-85 c = sym (ap pair-word c.in-85.is)

pub returns-in-86 : goal.returns-in-86
unfolding pair-word
returns-in-86 c = sym (ap pair-word c.in-86.is)

pub returns-in-87 : goal.returns-in-87
unfolding pair-word
returns-in-87 c = sym (ap pair-word c.in-87.is)

pub returns-in-88 : goal.returns-in-88
unfolding pair-word
returns-in-88 c = sym (ap pair-word c.in-88.is)

pub returns-in-89 : goal.returns-in-89
unfolding pair-word
returns-in-89 c = sym (ap pair-word c.in-89.is)

pub returns-in-90 : goal.returns-in-90
unfolding pair-word
returns-in-90 c = sym (ap pair-word c.in-90.is)

pub returns-in-91 : goal.returns-in-91
unfolding pair-word
returns-in-91 c = sym (ap pair-word c.in-91.is)

pub returns-in-92 : goal.returns-in-92
unfolding pair-word
returns-in-92 c = sym (ap pair-word c.in-92.is)

pub returns-in-93 : goal.returns-in-93
unfolding pair-word
returns-in-93 c = sym (ap pair-word c.in-93.is)

pub returns-in-94 : goal.returns-in-94
unfolding pair-word
returns-in-94 c = sym (ap pair-word c.in-94.is)

pub returns-in-95 : goal.returns-in-95
unfolding pair-word
returns-in-95 c = sym (ap pair-word c.in-95.is)

pub returns-in-96 : goal.returns-in-96
unfolding pair-word
returns-in-96 c = sym (ap pair-word c.in-96.is)

pub returns-in-97 : goal.returns-in-97
unfolding pair-word
returns-in-97 c = sym (ap pair-word c.in-97.is)

pub returns-in-98 : goal.returns-in-98
unfolding pair-word
returns-in-98 c = sym (ap pair-word c.in-98.is)

pub returns-in-99 : goal.returns-in-99
unfolding pair-word
returns-in-99 c = sym (ap pair-word c.in-99.is)

pub returns-in-100 : goal.returns-in-100
unfolding pair-word
returns-in-100 c = sym (ap pair-word c.in-100.is)

pub returns-in-101 : goal.returns-in-101
unfolding pair-word
returns-in-101 c = sym (ap pair-word c.in-101.is)

pub returns-in-102 : goal.returns-in-102
unfolding pair-word
returns-in-102 c = sym (ap pair-word c.in-102.is)

pub returns-in-103 : goal.returns-in-103
unfolding pair-word
returns-in-103 c = sym (ap pair-word c.in-103.is)

pub returns-in-104 : goal.returns-in-104
unfolding pair-word
returns-in-104 c = sym (ap pair-word c.in-104.is)

pub returns-in-105 : goal.returns-in-105
unfolding pair-word
returns-in-105 c = sym (ap pair-word c.in-105.is)

pub returns-in-106 : goal.returns-in-106
unfolding pair-word
returns-in-106 c = sym (ap pair-word c.in-106.is)

pub returns-in-107 : goal.returns-in-107
unfolding pair-word
returns-in-107 c = sym (ap pair-word c.in-107.is)

pub returns-in-108 : goal.returns-in-108
unfolding pair-word
returns-in-108 c = sym (ap pair-word c.in-108.is)

pub returns-in-109 : goal.returns-in-109
unfolding pair-word
returns-in-109 c = sym (ap pair-word c.in-109.is)

pub returns-in-110 : goal.returns-in-110
unfolding pair-word
returns-in-110 c = sym (ap pair-word c.in-110.is)

pub returns-in-111 : goal.returns-in-111
unfolding pair-word
returns-in-111 c = sym (ap pair-word c.in-111.is)

pub returns-in-112 : goal.returns-in-112
unfolding pair-word
returns-in-112 c = sym (ap pair-word c.in-112.is)

pub returns-in-113 : goal.returns-in-113
unfolding pair-word
returns-in-113 c = sym (ap pair-word c.in-113.is)

pub returns-in-114 : goal.returns-in-114
unfolding pair-word
returns-in-114 c = sym (ap pair-word c.in-114.is)

pub returns-in-115 : goal.returns-in-115
unfolding pair-word
returns-in-115 c = sym (ap pair-word c.in-115.is)

pub returns-in-116 : goal.returns-in-116
unfolding pair-word
returns-in-116 c = sym (ap pair-word c.in-116.is)

pub returns-in-117 : goal.returns-in-117
unfolding pair-word
returns-in-117 c = sym (ap pair-word c.in-117.is)

pub returns-in-118 : goal.returns-in-118
unfolding pair-word
returns-in-118 c = sym (ap pair-word c.in-118.is)

pub returns-in-119 : goal.returns-in-119
unfolding pair-word
returns-in-119 c = sym (ap pair-word c.in-119.is)

pub returns-in-120 : goal.returns-in-120
unfolding pair-word
returns-in-120 c = sym (ap pair-word c.in-120.is)

pub returns-in-121 : goal.returns-in-121
unfolding pair-word
returns-in-121 c = sym (ap pair-word c.in-121.is)

pub returns-in-122 : goal.returns-in-122
unfolding pair-word
returns-in-122 c = sym (ap pair-word c.in-122.is)

pub returns-in-123 : goal.returns-in-123
unfolding pair-word
returns-in-123 c = sym (ap pair-word c.in-123.is)

pub returns-in-124 : goal.returns-in-124
unfolding pair-word
returns-in-124 c = sym (ap pair-word c.in-124.is)

pub returns-in-125 : goal.returns-in-125
unfolding pair-word
returns-in-125 c = sym (ap pair-word c.in-125.is)

pub returns-in-126 : goal.returns-in-126
unfolding pair-word
returns-in-126 c = sym (ap pair-word c.in-126.is)

pub returns-in-127 : goal.returns-in-127
unfolding pair-word
returns-in-127 c = sym (ap pair-word c.in-127.is)

pub returns-in-128 : goal.returns-in-128
unfolding pair-word
returns-in-128 c = sym (ap pair-word c.in-128.is)

pub returns-in-129 : goal.returns-in-129
unfolding pair-word
returns-in-129 c = sym (ap pair-word c.in-129.is)

pub returns-in-130 : goal.returns-in-130
unfolding pair-word
returns-in-130 c = sym (ap pair-word c.in-130.is)

pub returns-in-131 : goal.returns-in-131
unfolding pair-word
returns-in-131 c = sym (ap pair-word c.in-131.is)

pub returns-in-132 : goal.returns-in-132
unfolding pair-word
returns-in-132 c = sym (ap pair-word c.in-132.is)

pub returns-in-133 : goal.returns-in-133
unfolding pair-word
returns-in-133 c = sym (ap pair-word c.in-133.is)

pub returns-in-134 : goal.returns-in-134
unfolding pair-word
returns-in-134 c = sym (ap pair-word c.in-134.is)

pub returns-in-135 : goal.returns-in-135
unfolding pair-word
returns-in-135 c = sym (ap pair-word c.in-135.is)

pub returns-in-136 : goal.returns-in-136
unfolding pair-word
returns-in-136 c = sym (ap pair-word c.in-136.is)

pub returns-in-137 : goal.returns-in-137
unfolding pair-word
returns-in-137 c = sym (ap pair-word c.in-137.is)

pub returns-in-138 : goal.returns-in-138
unfolding pair-word
returns-in-138 c = sym (ap pair-word c.in-138.is)

pub returns-in-139 : goal.returns-in-139
unfolding pair-word
returns-in-139 c = sym (ap pair-word c.in-139.is)

pub returns-in-140 : goal.returns-in-140
unfolding pair-word
returns-in-140 c = sym (ap pair-word c.in-140.is)

pub returns-in-141 : goal.returns-in-141
unfolding pair-word
returns-in-141 c = sym (ap pair-word c.in-141.is)

pub returns-in-142 : goal.returns-in-142
unfolding pair-word
returns-in-142 c = sym (ap pair-word c.in-142.is)

pub returns-in-143 : goal.returns-in-143
unfolding pair-word
returns-in-143 c = sym (ap pair-word c.in-143.is)

pub returns-in-144 : goal.returns-in-144
unfolding pair-word
returns-in-144 c = sym (ap pair-word c.in-144.is)

pub returns-in-145 : goal.returns-in-145
unfolding pair-word
returns-in-145 c = sym (ap pair-word c.in-145.is)

pub returns-in-146 : goal.returns-in-146
unfolding pair-word
returns-in-146 c = sym (ap pair-word c.in-146.is)

pub returns-in-147 : goal.returns-in-147
unfolding pair-word
returns-in-147 c = sym (ap pair-word c.in-147.is)

pub returns-in-148 : goal.returns-in-148
unfolding pair-word
returns-in-148 c = sym (ap pair-word c.in-148.is)

pub returns-in-149 : goal.returns-in-149
unfolding pair-word
returns-in-149 c = sym (ap pair-word c.in-149.is)

pub returns-in-150 : goal.returns-in-150
unfolding pair-word
returns-in-150 c = sym (ap pair-word c.in-150.is)

pub returns-in-151 : goal.returns-in-151
unfolding pair-word
returns-in-151 c = sym (ap pair-word c.in-151.is)

pub returns-in-152 : goal.returns-in-152
unfolding pair-word
returns-in-152 c = sym (ap pair-word c.in-152.is)

pub returns-in-153 : goal.returns-in-153
unfolding pair-word
returns-in-153 c = sym (ap pair-word c.in-153.is)

pub returns-in-154 : goal.returns-in-154
unfolding pair-word
returns-in-154 c = sym (ap pair-word c.in-154.is)

pub returns-in-155 : goal.returns-in-155
unfolding pair-word
returns-in-155 c = sym (ap pair-word c.in-155.is)

pub returns-in-156 : goal.returns-in-156
unfolding pair-word
returns-in-156 c = sym (ap pair-word c.in-156.is)

pub returns-in-157 : goal.returns-in-157
unfolding pair-word
returns-in-157 c = sym (ap pair-word c.in-157.is)

pub returns-in-158 : goal.returns-in-158
unfolding pair-word
returns-in-158 c = sym (ap pair-word c.in-158.is)

pub returns-in-159 : goal.returns-in-159
unfolding pair-word
returns-in-159 c = sym (ap pair-word c.in-159.is)

pub returns-in-160 : goal.returns-in-160
unfolding pair-word
returns-in-160 c = sym (ap pair-word c.in-160.is)

pub returns-in-161 : goal.returns-in-161
unfolding pair-word
returns-in-161 c = sym (ap pair-word c.in-161.is)

pub returns-in-162 : goal.returns-in-162
unfolding pair-word
returns-in-162 c = sym (ap pair-word c.in-162.is)

pub returns-in-163 : goal.returns-in-163
unfolding pair-word
returns-in-163 c = sym (ap pair-word c.in-163.is)

pub returns-in-164 : goal.returns-in-164
unfolding pair-word
returns-in-164 c = sym (ap pair-word c.in-164.is)

pub returns-in-165 : goal.returns-in-165
unfolding pair-word
returns-in-165 c = sym (ap pair-word c.in-165.is)

pub returns-in-166 : goal.returns-in-166
unfolding pair-word
returns-in-166 c = sym (ap pair-word c.in-166.is)

pub returns-in-167 : goal.returns-in-167
unfolding pair-word
returns-in-167 c = sym (ap pair-word c.in-167.is)

pub returns-in-168 : goal.returns-in-168
unfolding pair-word
returns-in-168 c = sym (ap pair-word c.in-168.is)

pub returns-in-169 : goal.returns-in-169
unfolding pair-word
returns-in-169 c = sym (ap pair-word c.in-169.is)

pub returns-in-170 : goal.returns-in-170
unfolding pair-word
returns-in-170 c = sym (ap pair-word c.in-170.is)

pub returns-in-171 : goal.returns-in-171
unfolding pair-word
returns-in-171 c = sym (ap pair-word c.in-171.is)

pub returns-in-172 : goal.returns-in-172
unfolding pair-word
returns-in-172 c = sym (ap pair-word c.in-172.is)

pub returns-in-173 : goal.returns-in-173
unfolding pair-word
returns-in-173 c = sym (ap pair-word c.in-173.is)

pub returns-in-174 : goal.returns-in-174
unfolding pair-word
returns-in-174 c = sym (ap pair-word c.in-174.is)

pub returns-in-175 : goal.returns-in-175
unfolding pair-word
returns-in-175 c = sym (ap pair-word c.in-175.is)

pub returns-in-176 : goal.returns-in-176
unfolding pair-word
returns-in-176 c = sym (ap pair-word c.in-176.is)

pub returns-in-177 : goal.returns-in-177
unfolding pair-word
returns-in-177 c = sym (ap pair-word c.in-177.is)

pub returns-in-178 : goal.returns-in-178
unfolding pair-word
returns-in-178 c = sym (ap pair-word c.in-178.is)

pub returns-in-179 : goal.returns-in-179
unfolding pair-word
returns-in-179 c = sym (ap pair-word c.in-179.is)

pub returns-in-180 : goal.returns-in-180
unfolding pair-word
returns-in-180 c = sym (ap pair-word c.in-180.is)

pub returns-in-181 : goal.returns-in-181
unfolding pair-word
returns-in-181 c = sym (ap pair-word c.in-181.is)

pub returns-in-182 : goal.returns-in-182
unfolding pair-word
returns-in-182 c = sym (ap pair-word c.in-182.is)

pub returns-in-183 : goal.returns-in-183
unfolding pair-word
returns-in-183 c = sym (ap pair-word c.in-183.is)

pub returns-in-184 : goal.returns-in-184
unfolding pair-word
returns-in-184 c = sym (ap pair-word c.in-184.is)

pub returns-in-185 : goal.returns-in-185
unfolding pair-word
returns-in-185 c = sym (ap pair-word c.in-185.is)

pub returns-in-186 : goal.returns-in-186
unfolding pair-word
returns-in-186 c = sym (ap pair-word c.in-186.is)

pub returns-in-187 : goal.returns-in-187
unfolding pair-word
returns-in-187 c = sym (ap pair-word c.in-187.is)

pub returns-in-188 : goal.returns-in-188
unfolding pair-word
returns-in-188 c = sym (ap pair-word c.in-188.is)

pub returns-in-189 : goal.returns-in-189
unfolding pair-word
returns-in-189 c = sym (ap pair-word c.in-189.is)

pub returns-in-190 : goal.returns-in-190
unfolding pair-word
returns-in-190 c = sym (ap pair-word c.in-190.is)

pub returns-in-191 : goal.returns-in-191
unfolding pair-word
returns-in-191 c = sym (ap pair-word c.in-191.is)

pub returns-in-192 : goal.returns-in-192
unfolding pair-word
returns-in-192 c = sym (ap pair-word c.in-192.is)

pub returns-in-193 : goal.returns-in-193
unfolding pair-word
returns-in-193 c = sym (ap pair-word c.in-193.is)

pub returns-in-194 : goal.returns-in-194
unfolding pair-word
returns-in-194 c = sym (ap pair-word c.in-194.is)

pub returns-in-195 : goal.returns-in-195
unfolding pair-word
returns-in-195 c = sym (ap pair-word c.in-195.is)

pub returns-in-196 : goal.returns-in-196
unfolding pair-word
returns-in-196 c = sym (ap pair-word c.in-196.is)

pub returns-in-197 : goal.returns-in-197
unfolding pair-word
returns-in-197 c = sym (ap pair-word c.in-197.is)

pub returns-in-198 : goal.returns-in-198
unfolding pair-word
returns-in-198 c = sym (ap pair-word c.in-198.is)

pub returns-in-199 : goal.returns-in-199
unfolding pair-word
returns-in-199 c = sym (ap pair-word c.in-199.is)

pub returns-in-200 : goal.returns-in-200
unfolding pair-word
returns-in-200 c = sym (ap pair-word c.in-200.is)

pub returns-in-201 : goal.returns-in-201
unfolding pair-word
returns-in-201 c = sym (ap pair-word c.in-201.is)

pub returns-in-202 : goal.returns-in-202
unfolding pair-word
returns-in-202 c = sym (ap pair-word c.in-202.is)

pub returns-in-203 : goal.returns-in-203
unfolding pair-word
returns-in-203 c = sym (ap pair-word c.in-203.is)

pub returns-in-204 : goal.returns-in-204
unfolding pair-word
returns-in-204 c = sym (ap pair-word c.in-204.is)

pub returns-in-205 : goal.returns-in-205
unfolding pair-word
returns-in-205 c = sym (ap pair-word c.in-205.is)

pub returns-in-206 : goal.returns-in-206
unfolding pair-word
returns-in-206 c = sym (ap pair-word c.in-206.is)

pub returns-in-207 : goal.returns-in-207
unfolding pair-word
returns-in-207 c = sym (ap pair-word c.in-207.is)

pub returns-in-208 : goal.returns-in-208
unfolding pair-word
returns-in-208 c = sym (ap pair-word c.in-208.is)

pub returns-in-209 : goal.returns-in-209
unfolding pair-word
returns-in-209 c = sym (ap pair-word c.in-209.is)

pub returns-in-210 : goal.returns-in-210
unfolding pair-word
returns-in-210 c = sym (ap pair-word c.in-210.is)

pub returns-in-211 : goal.returns-in-211
unfolding pair-word
returns-in-211 c = sym (ap pair-word c.in-211.is)

pub returns-in-212 : goal.returns-in-212
unfolding pair-word
returns-in-212 c = sym (ap pair-word c.in-212.is)

pub returns-in-213 : goal.returns-in-213
unfolding pair-word
returns-in-213 c = sym (ap pair-word c.in-213.is)

pub returns-in-214 : goal.returns-in-214
unfolding pair-word
returns-in-214 c = sym (ap pair-word c.in-214.is)

pub returns-in-215 : goal.returns-in-215
unfolding pair-word
returns-in-215 c = sym (ap pair-word c.in-215.is)

pub returns-in-216 : goal.returns-in-216
unfolding pair-word
returns-in-216 c = sym (ap pair-word c.in-216.is)

pub returns-in-217 : goal.returns-in-217
unfolding pair-word
returns-in-217 c = sym (ap pair-word c.in-217.is)

pub returns-in-218 : goal.returns-in-218
unfolding pair-word
returns-in-218 c = sym (ap pair-word c.in-218.is)

pub returns-in-219 : goal.returns-in-219
unfolding pair-word
returns-in-219 c = sym (ap pair-word c.in-219.is)

pub returns-in-220 : goal.returns-in-220
unfolding pair-word
returns-in-220 c = sym (ap pair-word c.in-220.is)

pub returns-in-221 : goal.returns-in-221
unfolding pair-word
returns-in-221 c = sym (ap pair-word c.in-221.is)

pub returns-in-222 : goal.returns-in-222
unfolding pair-word
returns-in-222 c = sym (ap pair-word c.in-222.is)

pub returns-in-223 : goal.returns-in-223
unfolding pair-word
returns-in-223 c = sym (ap pair-word c.in-223.is)

pub returns-in-224 : goal.returns-in-224
unfolding pair-word
returns-in-224 c = sym (ap pair-word c.in-224.is)

pub returns-in-225 : goal.returns-in-225
unfolding pair-word
returns-in-225 c = sym (ap pair-word c.in-225.is)

pub returns-in-226 : goal.returns-in-226
unfolding pair-word
returns-in-226 c = sym (ap pair-word c.in-226.is)

pub returns-in-227 : goal.returns-in-227
unfolding pair-word
returns-in-227 c = sym (ap pair-word c.in-227.is)

pub returns-in-228 : goal.returns-in-228
unfolding pair-word
returns-in-228 c = sym (ap pair-word c.in-228.is)

pub returns-in-229 : goal.returns-in-229
unfolding pair-word
returns-in-229 c = sym (ap pair-word c.in-229.is)

pub returns-in-230 : goal.returns-in-230
unfolding pair-word
returns-in-230 c = sym (ap pair-word c.in-230.is)

pub returns-in-231 : goal.returns-in-231
unfolding pair-word
returns-in-231 c = sym (ap pair-word c.in-231.is)

pub returns-in-232 : goal.returns-in-232
unfolding pair-word
returns-in-232 c = sym (ap pair-word c.in-232.is)

pub returns-in-233 : goal.returns-in-233
unfolding pair-word
returns-in-233 c = sym (ap pair-word c.in-233.is)

pub returns-in-234 : goal.returns-in-234
unfolding pair-word
returns-in-234 c = sym (ap pair-word c.in-234.is)

pub returns-in-235 : goal.returns-in-235
unfolding pair-word
returns-in-235 c = sym (ap pair-word c.in-235.is)

pub returns-in-236 : goal.returns-in-236
unfolding pair-word
returns-in-236 c = sym (ap pair-word c.in-236.is)

pub returns-in-237 : goal.returns-in-237
unfolding pair-word
returns-in-237 c = sym (ap pair-word c.in-237.is)

pub returns-in-238 : goal.returns-in-238
unfolding pair-word
returns-in-238 c = sym (ap pair-word c.in-238.is)

pub returns-in-239 : goal.returns-in-239
unfolding pair-word
returns-in-239 c = sym (ap pair-word c.in-239.is)

pub returns-in-240 : goal.returns-in-240
unfolding pair-word
returns-in-240 c = sym (ap pair-word c.in-240.is)

pub returns-in-241 : goal.returns-in-241
unfolding pair-word
returns-in-241 c = sym (ap pair-word c.in-241.is)

pub returns-in-242 : goal.returns-in-242
unfolding pair-word
returns-in-242 c = sym (ap pair-word c.in-242.is)

pub returns-in-243 : goal.returns-in-243
unfolding pair-word
returns-in-243 c = sym (ap pair-word c.in-243.is)

pub returns-in-244 : goal.returns-in-244
unfolding pair-word
returns-in-244 c = sym (ap pair-word c.in-244.is)

pub returns-in-245 : goal.returns-in-245
unfolding pair-word
returns-in-245 c = sym (ap pair-word c.in-245.is)

pub returns-in-246 : goal.returns-in-246
unfolding pair-word
returns-in-246 c = sym (ap pair-word c.in-246.is)

pub returns-in-247 : goal.returns-in-247
unfolding pair-word
returns-in-247 c = sym (ap pair-word c.in-247.is)

pub returns-in-248 : goal.returns-in-248
unfolding pair-word
returns-in-248 c = sym (ap pair-word c.in-248.is)

pub returns-in-249 : goal.returns-in-249
unfolding pair-word
returns-in-249 c = sym (ap pair-word c.in-249.is)

pub returns-in-250 : goal.returns-in-250
unfolding pair-word
returns-in-250 c = sym (ap pair-word c.in-250.is)

pub returns-in-251 : goal.returns-in-251
unfolding pair-word
returns-in-251 c = sym (ap pair-word c.in-251.is)

pub returns-in-252 : goal.returns-in-252
unfolding pair-word
returns-in-252 c = sym (ap pair-word c.in-252.is)

pub returns-in-253 : goal.returns-in-253
unfolding pair-word
returns-in-253 c = sym (ap pair-word c.in-253.is)

pub returns-in-254 : goal.returns-in-254
unfolding pair-word
returns-in-254 c = sym (ap pair-word c.in-254.is)

pub returns-in-255 : goal.returns-in-255
unfolding pair-word
returns-in-255 c = sym (ap pair-word c.in-255.is)

pub returns-in-256 : goal.returns-in-256
unfolding pair-word
returns-in-256 c = sym (ap pair-word c.in-256.is)

pub returns-in-257 : goal.returns-in-257
unfolding pair-word
returns-in-257 c = sym (ap pair-word c.in-257.is)

pub returns-in-258 : goal.returns-in-258
unfolding pair-word
returns-in-258 c = sym (ap pair-word c.in-258.is)

pub returns-in-259 : goal.returns-in-259
unfolding pair-word
returns-in-259 c = sym (ap pair-word c.in-259.is)

pub returns-in-260 : goal.returns-in-260
unfolding pair-word
returns-in-260 c = sym (ap pair-word c.in-260.is)

pub returns-in-261 : goal.returns-in-261
unfolding pair-word
returns-in-261 c = sym (ap pair-word c.in-261.is)

pub returns-in-262 : goal.returns-in-262
unfolding pair-word
returns-in-262 c = sym (ap pair-word c.in-262.is)

pub returns-in-263 : goal.returns-in-263
unfolding pair-word
returns-in-263 c = sym (ap pair-word c.in-263.is)

pub returns-in-264 : goal.returns-in-264
unfolding pair-word
returns-in-264 c = sym (ap pair-word c.in-264.is)

pub returns-in-265 : goal.returns-in-265
unfolding pair-word
returns-in-265 c = sym (ap pair-word c.in-265.is)

pub returns-in-266 : goal.returns-in-266
unfolding pair-word
returns-in-266 c = sym (ap pair-word c.in-266.is)

pub returns-in-267 : goal.returns-in-267
unfolding pair-word
returns-in-267 c = sym (ap pair-word c.in-267.is)

pub returns-in-268 : goal.returns-in-268
unfolding pair-word
returns-in-268 c = sym (ap pair-word c.in-268.is)

pub returns-in-269 : goal.returns-in-269
unfolding pair-word
returns-in-269 c = sym (ap pair-word c.in-269.is)

pub returns-in-270 : goal.returns-in-270
unfolding pair-word
returns-in-270 c = sym (ap pair-word c.in-270.is)

pub returns-in-271 : goal.returns-in-271
unfolding pair-word
returns-in-271 c = sym (ap pair-word c.in-271.is)

pub returns-in-272 : goal.returns-in-272
unfolding pair-word
returns-in-272 c = sym (ap pair-word c.in-272.is)

pub returns-in-273 : goal.returns-in-273
unfolding pair-word
returns-in-273 c = sym (ap pair-word c.in-273.is)

pub returns-in-274 : goal.returns-in-274
unfolding pair-word
returns-in-274 c = sym (ap pair-word c.in-274.is)

pub returns-in-275 : goal.returns-in-275
unfolding pair-word
returns-in-275 c = sym (ap pair-word c.in-275.is)

pub returns-in-276 : goal.returns-in-276
unfolding pair-word
returns-in-276 c = sym (ap pair-word c.in-276.is)

pub returns-in-277 : goal.returns-in-277
unfolding pair-word
returns-in-277 c = sym (ap pair-word c.in-277.is)

pub returns-in-278 : goal.returns-in-278
unfolding pair-word
returns-in-278 c = sym (ap pair-word c.in-278.is)

pub returns-in-279 : goal.returns-in-279
unfolding pair-word
returns-in-279 c = sym (ap pair-word c.in-279.is)

pub returns-in-280 : goal.returns-in-280
unfolding pair-word
returns-in-280 c = sym (ap pair-word c.in-280.is)

pub returns-in-281 : goal.returns-in-281
unfolding pair-word
returns-in-281 c = sym (ap pair-word c.in-281.is)

pub returns-in-282 : goal.returns-in-282
unfolding pair-word
returns-in-282 c = sym (ap pair-word c.in-282.is)

pub returns-in-283 : goal.returns-in-283
unfolding pair-word
returns-in-283 c = sym (ap pair-word c.in-283.is)

pub returns-in-284 : goal.returns-in-284
unfolding pair-word
returns-in-284 c = sym (ap pair-word c.in-284.is)

pub returns-in-285 : goal.returns-in-285
unfolding pair-word
returns-in-285 c = sym (ap pair-word c.in-285.is)

pub returns-in-286 : goal.returns-in-286
unfolding pair-word
returns-in-286 c = sym (ap pair-word c.in-286.is)

pub returns-in-287 : goal.returns-in-287
unfolding pair-word
returns-in-287 c = sym (ap pair-word c.in-287.is)

pub returns-in-288 : goal.returns-in-288
unfolding pair-word
returns-in-288 c = sym (ap pair-word c.in-288.is)

pub returns-in-289 : goal.returns-in-289
unfolding pair-word
returns-in-289 c = sym (ap pair-word c.in-289.is)

pub returns-in-290 : goal.returns-in-290
unfolding pair-word
returns-in-290 c = sym (ap pair-word c.in-290.is)

pub returns-in-291 : goal.returns-in-291
unfolding pair-word
returns-in-291 c = sym (ap pair-word c.in-291.is)

pub returns-in-292 : goal.returns-in-292
unfolding pair-word
returns-in-292 c = sym (ap pair-word c.in-292.is)

pub returns-in-293 : goal.returns-in-293
unfolding pair-word
returns-in-293 c = sym (ap pair-word c.in-293.is)

pub returns-in-294 : goal.returns-in-294
unfolding pair-word
returns-in-294 c = sym (ap pair-word c.in-294.is)

pub returns-in-295 : goal.returns-in-295
unfolding pair-word
returns-in-295 c = sym (ap pair-word c.in-295.is)

pub returns-in-296 : goal.returns-in-296
unfolding pair-word
returns-in-296 c = sym (ap pair-word c.in-296.is)

pub returns-in-297 : goal.returns-in-297
unfolding pair-word
returns-in-297 c = sym (ap pair-word c.in-297.is)

pub returns-in-298 : goal.returns-in-298
unfolding pair-word
returns-in-298 c = sym (ap pair-word c.in-298.is)

pub returns-in-299 : goal.returns-in-299
unfolding pair-word
returns-in-299 c = sym (ap pair-word c.in-299.is)

pub returns-in-300 : goal.returns-in-300
unfolding pair-word
returns-in-300 c = sym (ap pair-word c.in-300.is)

pub returns-in-301 : goal.returns-in-301
unfolding pair-word
returns-in-301 c = sym (ap pair-word c.in-301.is)

pub returns-in-302 : goal.returns-in-302
unfolding pair-word
returns-in-302 c = sym (ap pair-word c.in-302.is)

pub returns-in-303 : goal.returns-in-303
unfolding pair-word
returns-in-303 c = sym (ap pair-word c.in-303.is)

pub returns-in-304 : goal.returns-in-304
unfolding pair-word
returns-in-304 c = sym (ap pair-word c.in-304.is)

pub returns-in-305 : goal.returns-in-305
unfolding pair-word
returns-in-305 c = sym (ap pair-word c.in-305.is)

pub returns-in-306 : goal.returns-in-306
unfolding pair-word
returns-in-306 c = sym (ap pair-word c.in-306.is)

pub returns-in-307 : goal.returns-in-307
unfolding pair-word
returns-in-307 c = sym (ap pair-word c.in-307.is)

pub returns-in-308 : goal.returns-in-308
unfolding pair-word
returns-in-308 c = sym (ap pair-word c.in-308.is)

pub returns-in-309 : goal.returns-in-309
unfolding pair-word
returns-in-309 c = sym (ap pair-word c.in-309.is)

pub returns-in-310 : goal.returns-in-310
unfolding pair-word
returns-in-310 c = sym (ap pair-word c.in-310.is)

pub returns-in-311 : goal.returns-in-311
unfolding pair-word
returns-in-311 c = sym (ap pair-word c.in-311.is)

pub returns-in-312 : goal.returns-in-312
unfolding pair-word
returns-in-312 c = sym (ap pair-word c.in-312.is)

pub returns-in-313 : goal.returns-in-313
unfolding pair-word
returns-in-313 c = sym (ap pair-word c.in-313.is)

pub returns-in-314 : goal.returns-in-314
unfolding pair-word
returns-in-314 c = sym (ap pair-word c.in-314.is)

pub returns-in-315 : goal.returns-in-315
unfolding pair-word
returns-in-315 c = sym (ap pair-word c.in-315.is)

pub returns-in-316 : goal.returns-in-316
unfolding pair-word
returns-in-316 c = sym (ap pair-word c.in-316.is)

pub returns-in-317 : goal.returns-in-317
unfolding pair-word
returns-in-317 c = sym (ap pair-word c.in-317.is)

pub returns-in-318 : goal.returns-in-318
unfolding pair-word
returns-in-318 c = sym (ap pair-word c.in-318.is)

pub returns-in-319 : goal.returns-in-319
unfolding pair-word
returns-in-319 c = sym (ap pair-word c.in-319.is)

pub returns-in-320 : goal.returns-in-320
unfolding pair-word
returns-in-320 c = sym (ap pair-word c.in-320.is)

pub returns-in-321 : goal.returns-in-321
unfolding pair-word
returns-in-321 c = sym (ap pair-word c.in-321.is)

pub returns-in-322 : goal.returns-in-322
unfolding pair-word
returns-in-322 c = sym (ap pair-word c.in-322.is)

pub returns-in-323 : goal.returns-in-323
unfolding pair-word
returns-in-323 c = sym (ap pair-word c.in-323.is)

pub returns-in-324 : goal.returns-in-324
unfolding pair-word
returns-in-324 c = sym (ap pair-word c.in-324.is)

pub returns-in-325 : goal.returns-in-325
unfolding pair-word
returns-in-325 c = sym (ap pair-word c.in-325.is)

pub returns-in-326 : goal.returns-in-326
unfolding pair-word
returns-in-326 c = sym (ap pair-word c.in-326.is)

pub returns-in-327 : goal.returns-in-327
unfolding pair-word
returns-in-327 c = sym (ap pair-word c.in-327.is)

pub returns-in-328 : goal.returns-in-328
unfolding pair-word
returns-in-328 c = sym (ap pair-word c.in-328.is)

pub returns-in-329 : goal.returns-in-329
unfolding pair-word
returns-in-329 c = sym (ap pair-word c.in-329.is)

pub returns-in-330 : goal.returns-in-330
unfolding pair-word
returns-in-330 c = sym (ap pair-word c.in-330.is)

pub returns-in-331 : goal.returns-in-331
unfolding pair-word
returns-in-331 c = sym (ap pair-word c.in-331.is)

pub returns-in-332 : goal.returns-in-332
unfolding pair-word
returns-in-332 c = sym (ap pair-word c.in-332.is)

pub returns-in-333 : goal.returns-in-333
unfolding pair-word
returns-in-333 c = sym (ap pair-word c.in-333.is)

pub returns-in-334 : goal.returns-in-334
unfolding pair-word
returns-in-334 c = sym (ap pair-word c.in-334.is)

pub returns-in-335 : goal.returns-in-335
unfolding pair-word
returns-in-335 c = sym (ap pair-word c.in-335.is)

pub returns-in-336 : goal.returns-in-336
unfolding pair-word
returns-in-336 c = sym (ap pair-word c.in-336.is)

pub returns-in-337 : goal.returns-in-337
unfolding pair-word
returns-in-337 c = sym (ap pair-word c.in-337.is)

pub returns-in-338 : goal.returns-in-338
unfolding pair-word
returns-in-338 c = sym (ap pair-word c.in-338.is)

pub returns-in-339 : goal.returns-in-339
unfolding pair-word
returns-in-339 c = sym (ap pair-word c.in-339.is)

pub returns-in-340 : goal.returns-in-340
unfolding pair-word
returns-in-340 c = sym (ap pair-word c.in-340.is)

pub returns-in-341 : goal.returns-in-341
unfolding pair-word
returns-in-341 c = sym (ap pair-word c.in-341.is)

pub returns-in-342 : goal.returns-in-342
unfolding pair-word
returns-in-342 c = sym (ap pair-word c.in-342.is)

pub returns-in-343 : goal.returns-in-343
unfolding pair-word
returns-in-343 c = sym (ap pair-word c.in-343.is)

pub returns-in-344 : goal.returns-in-344
unfolding pair-word
returns-in-344 c = sym (ap pair-word c.in-344.is)

pub returns-in-345 : goal.returns-in-345
unfolding pair-word
returns-in-345 c = sym (ap pair-word c.in-345.is)

pub returns-in-346 : goal.returns-in-346
unfolding pair-word
returns-in-346 c = sym (ap pair-word c.in-346.is)

pub returns-in-347 : goal.returns-in-347
unfolding pair-word
returns-in-347 c = sym (ap pair-word c.in-347.is)

pub returns-in-348 : goal.returns-in-348
unfolding pair-word
returns-in-348 c = sym (ap pair-word c.in-348.is)

pub returns-in-349 : goal.returns-in-349
unfolding pair-word
returns-in-349 c = sym (ap pair-word c.in-349.is)

pub returns-in-350 : goal.returns-in-350
unfolding pair-word
returns-in-350 c = sym (ap pair-word c.in-350.is)

pub returns-in-351 : goal.returns-in-351
unfolding pair-word
returns-in-351 c = sym (ap pair-word c.in-351.is)

pub returns-in-352 : goal.returns-in-352
unfolding pair-word
returns-in-352 c = sym (ap pair-word c.in-352.is)

pub returns-in-353 : goal.returns-in-353
unfolding pair-word
returns-in-353 c = sym (ap pair-word c.in-353.is)

pub returns-in-354 : goal.returns-in-354
unfolding pair-word
returns-in-354 c = sym (ap pair-word c.in-354.is)

pub returns-in-355 : goal.returns-in-355
unfolding pair-word
returns-in-355 c = sym (ap pair-word c.in-355.is)

pub returns-in-356 : goal.returns-in-356
unfolding pair-word
returns-in-356 c = sym (ap pair-word c.in-356.is)

pub returns-in-357 : goal.returns-in-357
unfolding pair-word
returns-in-357 c = sym (ap pair-word c.in-357.is)

pub returns-in-358 : goal.returns-in-358
unfolding pair-word
returns-in-358 c = sym (ap pair-word c.in-358.is)

pub returns-in-359 : goal.returns-in-359
unfolding pair-word
returns-in-359 c = sym (ap pair-word c.in-359.is)

pub returns-in-360 : goal.returns-in-360
unfolding pair-word
returns-in-360 c = sym (ap pair-word c.in-360.is)

pub returns-in-361 : goal.returns-in-361
unfolding pair-word
returns-in-361 c = sym (ap pair-word c.in-361.is)

pub returns-in-362 : goal.returns-in-362
unfolding pair-word
returns-in-362 c = sym (ap pair-word c.in-362.is)

pub returns-in-363 : goal.returns-in-363
unfolding pair-word
returns-in-363 c = sym (ap pair-word c.in-363.is)

pub returns-in-364 : goal.returns-in-364
unfolding pair-word
returns-in-364 c = sym (ap pair-word c.in-364.is)

pub returns-in-365 : goal.returns-in-365
unfolding pair-word
returns-in-365 c = sym (ap pair-word c.in-365.is)

pub returns-in-366 : goal.returns-in-366
unfolding pair-word
returns-in-366 c = sym (ap pair-word c.in-366.is)

pub returns-in-367 : goal.returns-in-367
unfolding pair-word
returns-in-367 c = sym (ap pair-word c.in-367.is)

pub returns-in-368 : goal.returns-in-368
unfolding pair-word
returns-in-368 c = sym (ap pair-word c.in-368.is)

pub returns-in-369 : goal.returns-in-369
unfolding pair-word
returns-in-369 c = sym (ap pair-word c.in-369.is)

pub returns-in-370 : goal.returns-in-370
unfolding pair-word
returns-in-370 c = sym (ap pair-word c.in-370.is)

pub returns-in-371 : goal.returns-in-371
unfolding pair-word
returns-in-371 c = sym (ap pair-word c.in-371.is)

pub returns-in-372 : goal.returns-in-372
unfolding pair-word
returns-in-372 c = sym (ap pair-word c.in-372.is)

pub returns-in-373 : goal.returns-in-373
unfolding pair-word
returns-in-373 c = sym (ap pair-word c.in-373.is)

pub returns-in-374 : goal.returns-in-374
unfolding pair-word
returns-in-374 c = sym (ap pair-word c.in-374.is)

pub returns-in-375 : goal.returns-in-375
unfolding pair-word
returns-in-375 c = sym (ap pair-word c.in-375.is)

pub returns-in-376 : goal.returns-in-376
unfolding pair-word
returns-in-376 c = sym (ap pair-word c.in-376.is)

pub returns-in-377 : goal.returns-in-377
unfolding pair-word
returns-in-377 c = sym (ap pair-word c.in-377.is)

pub returns-in-378 : goal.returns-in-378
unfolding pair-word
returns-in-378 c = sym (ap pair-word c.in-378.is)

pub returns-in-379 : goal.returns-in-379
unfolding pair-word
returns-in-379 c = sym (ap pair-word c.in-379.is)

pub returns-in-380 : goal.returns-in-380
unfolding pair-word
returns-in-380 c = sym (ap pair-word c.in-380.is)

pub returns-in-381 : goal.returns-in-381
unfolding pair-word
returns-in-381 c = sym (ap pair-word c.in-381.is)

pub returns-in-382 : goal.returns-in-382
unfolding pair-word
returns-in-382 c = sym (ap pair-word c.in-382.is)

pub returns-in-383 : goal.returns-in-383
unfolding pair-word
returns-in-383 c = sym (ap pair-word c.in-383.is)

pub returns-in-384 : goal.returns-in-384
unfolding pair-word
returns-in-384 c = sym (ap pair-word c.in-384.is)

pub returns-in-385 : goal.returns-in-385
unfolding pair-word
returns-in-385 c = sym (ap pair-word c.in-385.is)

pub returns-in-386 : goal.returns-in-386
unfolding pair-word
returns-in-386 c = sym (ap pair-word c.in-386.is)

pub returns-in-387 : goal.returns-in-387
unfolding pair-word
returns-in-387 c = sym (ap pair-word c.in-387.is)

pub returns-in-388 : goal.returns-in-388
unfolding pair-word
returns-in-388 c = sym (ap pair-word c.in-388.is)

pub returns-in-389 : goal.returns-in-389
unfolding pair-word
returns-in-389 c = sym (ap pair-word c.in-389.is)

pub returns-in-390 : goal.returns-in-390
unfolding pair-word
returns-in-390 c = sym (ap pair-word c.in-390.is)

pub returns-in-391 : goal.returns-in-391
unfolding pair-word
returns-in-391 c = sym (ap pair-word c.in-391.is)

pub returns-in-392 : goal.returns-in-392
unfolding pair-word
returns-in-392 c = sym (ap pair-word c.in-392.is)

pub returns-in-393 : goal.returns-in-393
unfolding pair-word
returns-in-393 c = sym (ap pair-word c.in-393.is)

pub returns-in-394 : goal.returns-in-394
unfolding pair-word
returns-in-394 c = sym (ap pair-word c.in-394.is)

pub returns-in-395 : goal.returns-in-395
unfolding pair-word
returns-in-395 c = sym (ap pair-word c.in-395.is)

pub returns-in-396 : goal.returns-in-396
unfolding pair-word
returns-in-396 c = sym (ap pair-word c.in-396.is)

pub returns-in-397 : goal.returns-in-397
unfolding pair-word
returns-in-397 c = sym (ap pair-word c.in-397.is)

pub returns-in-398 : goal.returns-in-398
unfolding pair-word
returns-in-398 c = sym (ap pair-word c.in-398.is)

pub returns-in-399 : goal.returns-in-399
unfolding pair-word
returns-in-399 c = sym (ap pair-word c.in-399.is)

pub returns-in-400 : goal.returns-in-400
unfolding pair-word
returns-in-400 c = sym (ap pair-word c.in-400.is)

pub returns-in-401 : goal.returns-in-401
unfolding pair-word
returns-in-401 c = sym (ap pair-word c.in-401.is)

pub returns-in-402 : goal.returns-in-402
unfolding pair-word
returns-in-402 c = sym (ap pair-word c.in-402.is)

pub returns-in-403 : goal.returns-in-403
unfolding pair-word
returns-in-403 c = sym (ap pair-word c.in-403.is)

pub returns-in-404 : goal.returns-in-404
unfolding pair-word
returns-in-404 c = sym (ap pair-word c.in-404.is)

pub returns-in-405 : goal.returns-in-405
unfolding pair-word
returns-in-405 c = sym (ap pair-word c.in-405.is)

pub returns-in-406 : goal.returns-in-406
unfolding pair-word
returns-in-406 c = sym (ap pair-word c.in-406.is)

pub returns-in-407 : goal.returns-in-407
unfolding pair-word
returns-in-407 c = sym (ap pair-word c.in-407.is)

pub returns-in-408 : goal.returns-in-408
unfolding pair-word
returns-in-408 c = sym (ap pair-word c.in-408.is)

pub returns-in-409 : goal.returns-in-409
unfolding pair-word
returns-in-409 c = sym (ap pair-word c.in-409.is)

pub returns-in-410 : goal.returns-in-410
unfolding pair-word
returns-in-410 c = sym (ap pair-word c.in-410.is)

pub returns-in-411 : goal.returns-in-411
unfolding pair-word
returns-in-411 c = sym (ap pair-word c.in-411.is)

pub returns-in-412 : goal.returns-in-412
unfolding pair-word
returns-in-412 c = sym (ap pair-word c.in-412.is)

pub returns-in-413 : goal.returns-in-413
unfolding pair-word
returns-in-413 c = sym (ap pair-word c.in-413.is)

pub returns-in-414 : goal.returns-in-414
unfolding pair-word
returns-in-414 c = sym (ap pair-word c.in-414.is)

pub returns-in-415 : goal.returns-in-415
unfolding pair-word
returns-in-415 c = sym (ap pair-word c.in-415.is)

pub returns-in-416 : goal.returns-in-416
unfolding pair-word
returns-in-416 c = sym (ap pair-word c.in-416.is)

pub returns-in-417 : goal.returns-in-417
unfolding pair-word
returns-in-417 c = sym (ap pair-word c.in-417.is)

pub returns-in-418 : goal.returns-in-418
unfolding pair-word
returns-in-418 c = sym (ap pair-word c.in-418.is)

pub returns-in-419 : goal.returns-in-419
unfolding pair-word
returns-in-419 c = sym (ap pair-word c.in-419.is)

pub returns-in-420 : goal.returns-in-420
unfolding pair-word
returns-in-420 c = sym (ap pair-word c.in-420.is)

pub returns-in-421 : goal.returns-in-421
unfolding pair-word
returns-in-421 c = sym (ap pair-word c.in-421.is)

pub returns-in-422 : goal.returns-in-422
unfolding pair-word
returns-in-422 c = sym (ap pair-word c.in-422.is)

pub returns-in-423 : goal.returns-in-423
unfolding pair-word
returns-in-423 c = sym (ap pair-word c.in-423.is)

pub returns-in-424 : goal.returns-in-424
unfolding pair-word
returns-in-424 c = sym (ap pair-word c.in-424.is)

pub returns-in-425 : goal.returns-in-425
unfolding pair-word
returns-in-425 c = sym (ap pair-word c.in-425.is)

pub returns-in-426 : goal.returns-in-426
unfolding pair-word
returns-in-426 c = sym (ap pair-word c.in-426.is)

pub returns-in-427 : goal.returns-in-427
unfolding pair-word
returns-in-427 c = sym (ap pair-word c.in-427.is)

pub returns-in-428 : goal.returns-in-428
unfolding pair-word
returns-in-428 c = sym (ap pair-word c.in-428.is)

pub returns-in-429 : goal.returns-in-429
unfolding pair-word
returns-in-429 c = sym (ap pair-word c.in-429.is)

pub returns-in-430 : goal.returns-in-430
unfolding pair-word
returns-in-430 c = sym (ap pair-word c.in-430.is)

pub returns-in-431 : goal.returns-in-431
unfolding pair-word
returns-in-431 c = sym (ap pair-word c.in-431.is)

pub returns-in-432 : goal.returns-in-432
unfolding pair-word
returns-in-432 c = sym (ap pair-word c.in-432.is)

pub returns-in-433 : goal.returns-in-433
unfolding pair-word
returns-in-433 c = sym (ap pair-word c.in-433.is)

pub returns-in-434 : goal.returns-in-434
unfolding pair-word
returns-in-434 c = sym (ap pair-word c.in-434.is)

pub returns-in-435 : goal.returns-in-435
unfolding pair-word
returns-in-435 c = sym (ap pair-word c.in-435.is)

pub returns-in-436 : goal.returns-in-436
unfolding pair-word
returns-in-436 c = sym (ap pair-word c.in-436.is)

pub returns-in-437 : goal.returns-in-437
unfolding pair-word
returns-in-437 c = sym (ap pair-word c.in-437.is)

pub returns-in-438 : goal.returns-in-438
unfolding pair-word
returns-in-438 c = sym (ap pair-word c.in-438.is)

pub returns-in-439 : goal.returns-in-439
unfolding pair-word
returns-in-439 c = sym (ap pair-word c.in-439.is)

pub returns-in-440 : goal.returns-in-440
unfolding pair-word
returns-in-440 c = sym (ap pair-word c.in-440.is)

pub returns-in-441 : goal.returns-in-441
unfolding pair-word
returns-in-441 c = sym (ap pair-word c.in-441.is)

pub returns-in-442 : goal.returns-in-442
unfolding pair-word
returns-in-442 c = sym (ap pair-word c.in-442.is)

pub returns-in-443 : goal.returns-in-443
unfolding pair-word
returns-in-443 c = sym (ap pair-word c.in-443.is)

pub returns-in-444 : goal.returns-in-444
unfolding pair-word
returns-in-444 c = sym (ap pair-word c.in-444.is)

pub returns-in-445 : goal.returns-in-445
unfolding pair-word
returns-in-445 c = sym (ap pair-word c.in-445.is)

pub returns-in-446 : goal.returns-in-446
unfolding pair-word
returns-in-446 c = sym (ap pair-word c.in-446.is)

pub returns-in-447 : goal.returns-in-447
unfolding pair-word
returns-in-447 c = sym (ap pair-word c.in-447.is)

pub returns-in-448 : goal.returns-in-448
unfolding pair-word
returns-in-448 c = sym (ap pair-word c.in-448.is)

pub returns-in-449 : goal.returns-in-449
unfolding pair-word
returns-in-449 c = sym (ap pair-word c.in-449.is)

pub returns-in-450 : goal.returns-in-450
unfolding pair-word
returns-in-450 c = sym (ap pair-word c.in-450.is)

pub returns-in-451 : goal.returns-in-451
unfolding pair-word
returns-in-451 c = sym (ap pair-word c.in-451.is)

pub returns-in-452 : goal.returns-in-452
unfolding pair-word
returns-in-452 c = sym (ap pair-word c.in-452.is)

pub returns-in-453 : goal.returns-in-453
unfolding pair-word
returns-in-453 c = sym (ap pair-word c.in-453.is)

pub returns-in-454 : goal.returns-in-454
unfolding pair-word
returns-in-454 c = sym (ap pair-word c.in-454.is)

pub returns-in-455 : goal.returns-in-455
unfolding pair-word
returns-in-455 c = sym (ap pair-word c.in-455.is)

pub returns-in-456 : goal.returns-in-456
unfolding pair-word
returns-in-456 c = sym (ap pair-word c.in-456.is)

pub returns-in-457 : goal.returns-in-457
unfolding pair-word
returns-in-457 c = sym (ap pair-word c.in-457.is)

pub returns-in-458 : goal.returns-in-458
unfolding pair-word
returns-in-458 c = sym (ap pair-word c.in-458.is)

pub returns-in-459 : goal.returns-in-459
unfolding pair-word
returns-in-459 c = sym (ap pair-word c.in-459.is)

pub returns-in-460 : goal.returns-in-460
unfolding pair-word
returns-in-460 c = sym (ap pair-word c.in-460.is)

pub returns-in-461 : goal.returns-in-461
unfolding pair-word
returns-in-461 c = sym (ap pair-word c.in-461.is)

pub returns-in-462 : goal.returns-in-462
unfolding pair-word
returns-in-462 c = sym (ap pair-word c.in-462.is)

pub returns-in-463 : goal.returns-in-463
unfolding pair-word
returns-in-463 c = sym (ap pair-word c.in-463.is)

pub returns-in-464 : goal.returns-in-464
unfolding pair-word
returns-in-464 c = sym (ap pair-word c.in-464.is)

pub returns-in-465 : goal.returns-in-465
unfolding pair-word
returns-in-465 c = sym (ap pair-word c.in-465.is)

pub returns-in-466 : goal.returns-in-466
unfolding pair-word
returns-in-466 c = sym (ap pair-word c.in-466.is)

pub returns-in-467 : goal.returns-in-467
unfolding pair-word
returns-in-467 c = sym (ap pair-word c.in-467.is)

pub returns-in-468 : goal.returns-in-468
unfolding pair-word
returns-in-468 c = sym (ap pair-word c.in-468.is)

pub returns-in-469 : goal.returns-in-469
unfolding pair-word
returns-in-469 c = sym (ap pair-word c.in-469.is)

pub returns-in-470 : goal.returns-in-470
unfolding pair-word
returns-in-470 c = sym (ap pair-word c.in-470.is)

pub returns-in-471 : goal.returns-in-471
unfolding pair-word
returns-in-471 c = sym (ap pair-word c.in-471.is)

pub returns-in-472 : goal.returns-in-472
unfolding pair-word
returns-in-472 c = sym (ap pair-word c.in-472.is)

pub returns-in-473 : goal.returns-in-473
unfolding pair-word
returns-in-473 c = sym (ap pair-word c.in-473.is)

pub returns-in-474 : goal.returns-in-474
unfolding pair-word
returns-in-474 c = sym (ap pair-word c.in-474.is)

pub returns-in-475 : goal.returns-in-475
unfolding pair-word
returns-in-475 c = sym (ap pair-word c.in-475.is)

pub returns-in-476 : goal.returns-in-476
unfolding pair-word
returns-in-476 c = sym (ap pair-word c.in-476.is)

pub returns-in-477 : goal.returns-in-477
unfolding pair-word
returns-in-477 c = sym (ap pair-word c.in-477.is)

pub returns-in-478 : goal.returns-in-478
unfolding pair-word
returns-in-478 c = sym (ap pair-word c.in-478.is)

pub returns-in-479 : goal.returns-in-479
unfolding pair-word
returns-in-479 c = sym (ap pair-word c.in-479.is)

pub returns-in-480 : goal.returns-in-480
unfolding pair-word
returns-in-480 c = sym (ap pair-word c.in-480.is)

pub returns-in-481 : goal.returns-in-481
unfolding pair-word
returns-in-481 c = sym (ap pair-word c.in-481.is)

pub returns-in-482 : goal.returns-in-482
unfolding pair-word
returns-in-482 c = sym (ap pair-word c.in-482.is)

pub returns-in-483 : goal.returns-in-483
unfolding pair-word
returns-in-483 c = sym (ap pair-word c.in-483.is)

pub returns-in-484 : goal.returns-in-484
unfolding pair-word
returns-in-484 c = sym (ap pair-word c.in-484.is)

pub returns-in-485 : goal.returns-in-485
unfolding pair-word
returns-in-485 c = sym (ap pair-word c.in-485.is)

pub returns-in-486 : goal.returns-in-486
unfolding pair-word
returns-in-486 c = sym (ap pair-word c.in-486.is)

pub returns-in-487 : goal.returns-in-487
unfolding pair-word
returns-in-487 c = sym (ap pair-word c.in-487.is)

pub returns-in-488 : goal.returns-in-488
unfolding pair-word
returns-in-488 c = sym (ap pair-word c.in-488.is)

pub returns-in-489 : goal.returns-in-489
unfolding pair-word
returns-in-489 c = sym (ap pair-word c.in-489.is)

pub returns-in-490 : goal.returns-in-490
unfolding pair-word
returns-in-490 c = sym (ap pair-word c.in-490.is)

pub returns-in-491 : goal.returns-in-491
unfolding pair-word
returns-in-491 c = sym (ap pair-word c.in-491.is)

pub returns-in-492 : goal.returns-in-492
unfolding pair-word
returns-in-492 c = sym (ap pair-word c.in-492.is)

pub returns-in-493 : goal.returns-in-493
unfolding pair-word
returns-in-493 c = sym (ap pair-word c.in-493.is)

pub returns-in-494 : goal.returns-in-494
unfolding pair-word
returns-in-494 c = sym (ap pair-word c.in-494.is)

pub returns-in-495 : goal.returns-in-495
unfolding pair-word
returns-in-495 c = sym (ap pair-word c.in-495.is)

pub returns-in-496 : goal.returns-in-496
unfolding pair-word
returns-in-496 c = sym (ap pair-word c.in-496.is)

pub returns-in-497 : goal.returns-in-497
unfolding pair-word
returns-in-497 c = sym (ap pair-word c.in-497.is)

pub returns-in-498 : goal.returns-in-498
unfolding pair-word
returns-in-498 c = sym (ap pair-word c.in-498.is)

pub returns-in-499 : goal.returns-in-499
unfolding pair-word
returns-in-499 c = sym (ap pair-word c.in-499.is)

pub returns-in-500 : goal.returns-in-500
unfolding pair-word
returns-in-500 c = sym (ap pair-word c.in-500.is)

pub returns-in-501 : goal.returns-in-501
unfolding pair-word
returns-in-501 c = sym (ap pair-word c.in-501.is)

pub returns-in-502 : goal.returns-in-502
unfolding pair-word
returns-in-502 c = sym (ap pair-word c.in-502.is)

pub returns-in-503 : goal.returns-in-503
unfolding pair-word
returns-in-503 c = sym (ap pair-word c.in-503.is)

pub returns-in-504 : goal.returns-in-504
unfolding pair-word
returns-in-504 c = sym (ap pair-word c.in-504.is)

pub returns-in-505 : goal.returns-in-505
unfolding pair-word
returns-in-505 c = sym (ap pair-word c.in-505.is)

pub returns-in-506 : goal.returns-in-506
unfolding pair-word
returns-in-506 c = sym (ap pair-word c.in-506.is)

pub returns-in-507 : goal.returns-in-507
unfolding pair-word
returns-in-507 c = sym (ap pair-word c.in-507.is)

pub returns-in-508 : goal.returns-in-508
unfolding pair-word
returns-in-508 c = sym (ap pair-word c.in-508.is)

pub returns-in-509 : goal.returns-in-509
unfolding pair-word
returns-in-509 c = sym (ap pair-word c.in-509.is)

pub returns-in-510 : goal.returns-in-510
unfolding pair-word
returns-in-510 c = sym (ap pair-word c.in-510.is)

pub returns-in-511 : goal.returns-in-511
unfolding pair-word
returns-in-511 c = sym (ap pair-word c.in-511.is)
